pub mod Cases
pub mod Ids
pub mod Mul
pub mod Only
