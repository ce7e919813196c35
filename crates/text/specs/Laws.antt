-- The laws of the definitions beside this file. Nothing here needs to be believed: the check proves it.
pub mod Decimal
pub mod Put
