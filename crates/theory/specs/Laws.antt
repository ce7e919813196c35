-- The laws of the definitions above. Nothing here needs to be believed: the check proves it.
-- Sums, searches and lists; conservation and potentials:
pub mod Finite
pub mod Cases
pub mod Bits
pub mod Marks
pub mod Parts
pub mod Conserving
pub mod Potentials
pub mod Permission
pub mod Classes
-- paths, distances, next links and loadings:
pub mod Paths
pub mod Rounds
pub mod Consistent
pub mod Distances
pub mod Reach
pub mod Next
pub mod Walks
pub mod Noted
pub mod Routings
pub mod Loading
pub mod Unreachable
-- the bound, the choice of j, moves and runs:
pub mod LeastTimes
pub mod Inequalities
pub mod Times
pub mod Tangent
pub mod Bound
pub mod Tables
pub mod Choice
pub mod Moves
pub mod Notes
pub mod Descent
pub mod Runs
pub mod Local
pub mod Totals
pub mod Padded
pub mod Filled
