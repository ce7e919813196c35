-- Document 01, 'The study file': what the bytes of a study mean, and questions 1 to 5. Nothing here knows of flows.
pub mod Bytes
pub mod Versions
pub mod Header
pub mod Questions
pub mod Sections
pub mod Fields
pub mod Laws
