-- The three demands as theorems about document 01's definitions: `Demands` states them. `Requests` states those that document 02's requests
-- ask for. The other modules prove them.
pub mod Demands
pub mod Requests
pub mod Refusals
pub mod Results
pub mod Sequences
pub mod RunEndings
pub mod Packing
pub mod Unreachable
pub mod Pages
pub mod Zones
pub mod NextNodes
pub mod PastCurves
pub mod Powers
pub mod TakingBack
pub mod Lorries
pub mod LorryTowns
pub mod Queues
pub mod Instances
