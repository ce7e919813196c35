-- The laws that join the definitions of `calls` over a file to those of `judging` over its study.
pub mod Parts
pub mod Places
pub mod Numbers
pub mod Ready
