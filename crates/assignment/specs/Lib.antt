-- The answers of the calls, and a run under way, and the laws that join the calls' definitions to the judging of a decoded study.
pub mod Answers
pub mod Runs
pub mod Laws
