-- What the functions of this crate ask and compute, over rows of links and lists of numbers.
pub mod Loading
pub mod Moves
pub mod Laws
