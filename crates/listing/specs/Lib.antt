-- What the programs print, and the parts of a listing.
pub mod Listing
pub mod Lines
pub mod Cases
pub mod Laws
