-- What the functions of this crate compute, over rows of links and lists of link totals.
pub mod Links
pub mod Ranges
pub mod Laws
