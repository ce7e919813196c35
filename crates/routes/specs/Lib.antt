-- Next links, kept by destination and by node, and the laws behind their proofs.
pub mod Next
pub mod Table
pub mod Routes
pub mod Laws
