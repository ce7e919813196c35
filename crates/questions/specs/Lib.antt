-- What the functions of this crate compute, over a study in rows.
pub mod Sized
pub mod Fields
pub mod Destinations
pub mod Reach
pub mod Rows
pub mod Laws
