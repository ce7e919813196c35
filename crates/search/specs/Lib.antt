-- What the functions of this crate compute, over the links of a study and their times; what they ask of these; and the laws behind their
-- proofs.
pub mod Search
pub mod Given
pub mod Chains
pub mod Marks
pub mod Rows
pub mod Lanes
pub mod Searches
pub mod Groups
pub mod Least
pub mod Laws
