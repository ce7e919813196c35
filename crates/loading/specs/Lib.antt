-- Trips sent along next links, and the laws behind their proofs.
pub mod Along
pub mod Sending
pub mod Laws
