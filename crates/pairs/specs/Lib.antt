pub mod Limits
pub mod Key
pub mod Walk
pub mod Table
pub mod Calls
pub mod Held
pub mod Rank
pub mod Steps
