-- Theorems on the definitions of specs/ whose must-fail edits they refuse.
pub mod Accepted
pub mod Computed
