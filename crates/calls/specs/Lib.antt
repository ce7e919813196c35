-- Document 01 over bytes: the network that a study file describes, the questions in order, and what each call answers and leaves in
-- lent memory, for any bytes and any numbers. What document 02's requests add stands in the same modules.
pub mod Study
pub mod Questions
pub mod Pack
pub mod Page
pub mod Calls
pub mod Desks
pub mod Sequence
pub mod Cases
pub mod Laws
