-- The laws of what the programs print: what a run leaves can be audited, what the listing's arrays hold, and what is printed of them.
pub mod Runs
pub mod Links
pub mod Printed
pub mod Pages
