-- The laws of the definitions above. Nothing here needs to be believed: the check proves it.
pub mod Study
pub mod Classes
pub mod Chains
pub mod Counted
pub mod Loaded
pub mod Routes
pub mod Least
pub mod Noted
pub mod Judged
pub mod Doubled
pub mod Start
pub mod Turns
