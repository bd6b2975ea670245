pub mod Limits
pub mod Ids
pub mod Refusals
pub mod Printed
pub mod Sizes
pub mod Walks
