-- Document 01 over a network without bytes: one module for each of its headings, in its words and order. What a reader must believe is
-- in these modules; the laws about them are below `Laws`.
pub mod Finite
pub mod Network
pub mod Flows
pub mod Routes
pub mod Cost
pub mod Moves
pub mod Study
pub mod Classes
pub mod Notes
pub mod Marks
pub mod Laws
