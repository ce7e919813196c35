-- Numbers and words as ASCII text, and how their bytes come into lent memory.
pub mod Decimal
pub mod Put
pub mod Cases
pub mod Laws
