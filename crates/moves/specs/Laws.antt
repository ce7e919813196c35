-- The laws of the definitions above. Nothing here needs to be believed: the check proves it.
pub mod Front
pub mod Loading
pub mod Classes
pub mod Moves
pub mod Totals
