-- A note written, followed, and taken back out of a table, over rows of links and lists of numbers.
pub mod Written
pub mod Followed
pub mod Lessened
pub mod Taken
pub mod Laws
