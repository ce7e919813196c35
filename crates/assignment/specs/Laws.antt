-- The laws that join the definitions of `calls` over a file to those of `judging` over its study.
pub mod Answers
pub mod Runs
