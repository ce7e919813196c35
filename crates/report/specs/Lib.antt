-- What the program `assign` answers to its standard input, and the laws behind it.
pub mod Respond
pub mod Laws
