-- The laws of the definitions above.
pub mod Decoding
pub mod Checking
pub mod Packing
