-- A study file as it is decoded for a call, the places that a call lends, and the laws that join the questions over a file to those over its study.
pub mod Parts
pub mod Places
pub mod Laws
