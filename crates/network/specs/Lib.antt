-- What the functions of this crate compute, over the decoded fields of a study.
pub mod Decoded
pub mod Written
pub mod Laws
