-- The laws of this crate's definitions. Nothing here needs to be believed: the check proves it.
pub mod Serving
pub mod Rounds
pub mod Standing
