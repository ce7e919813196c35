-- The laws of the definitions above. Nothing here needs to be believed: the check proves it.
pub mod Next
pub mod Candidates
pub mod Table
pub mod Own
