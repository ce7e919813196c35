-- The laws of the definitions above. Nothing here needs to be believed: the check proves it.
-- Arrays of which the first m numbers count; totals of a table, row by row:
pub mod Padded
pub mod Rows
pub mod Totals
-- question 16, node by node:
pub mod Sums
pub mod Balance
-- times, the staircase and cost:
pub mod Times
pub mod Powers
pub mod Reciprocals
pub mod Staircase
pub mod Costs
-- the choice of j:
pub mod Choice
pub mod Bisection
-- the times of a network:
pub mod Network
