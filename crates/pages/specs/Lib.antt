-- The page of a table as its lines are put one behind the other.
pub mod Lines
pub mod Laws
