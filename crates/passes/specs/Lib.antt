-- The answers of the calls, and the laws that join the calls' definitions to what is done to a decoded study's table and note.
pub mod Answers
pub mod Laws
