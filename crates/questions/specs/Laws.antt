-- The laws of the definitions above.
-- Links and questions of a study:
pub mod Links
pub mod Questions
pub mod Reach
pub mod Commodities
-- of a table:
pub mod Rows
pub mod Table
