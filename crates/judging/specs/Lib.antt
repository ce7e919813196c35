-- What the functions of this crate ask and compute, over a decoded study.
pub mod Study
pub mod Classes
pub mod Judged
pub mod Noted
pub mod Laws
