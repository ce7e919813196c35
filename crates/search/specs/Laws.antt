-- The laws of the definitions above. Nothing here needs to be believed: the check proves it.
pub mod Chains
pub mod Sweep
pub mod Found
pub mod Rows
pub mod Lanes
pub mod Groups
pub mod Trips
pub mod Least
