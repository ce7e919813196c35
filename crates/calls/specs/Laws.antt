-- Laws of the definitions beside this file. Nothing here needs to be believed: the check proves it.
pub mod Questions
pub mod Commodities
pub mod Networks
pub mod Calls
pub mod Pack
pub mod Reach
pub mod Tables
pub mod Page
pub mod Turns
pub mod Desks
