-- What is lent at the seats, a desk under way and how far the turns go round, and the laws that join them to the definitions of `calls`.
pub mod Seats
pub mod Rounds
pub mod Standing
pub mod Laws
