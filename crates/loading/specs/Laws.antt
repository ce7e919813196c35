-- The laws of the definitions above. Nothing here needs to be believed: the check proves it.
pub mod Along
pub mod Leaves
pub mod Sending
pub mod Scattered
