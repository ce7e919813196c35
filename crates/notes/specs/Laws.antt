-- The laws of the definitions above. Nothing here needs to be believed: the check proves it.
pub mod Written
pub mod Followed
pub mod Noted
pub mod Lessened
pub mod Taken
