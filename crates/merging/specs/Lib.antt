pub mod Merging
pub mod Lists
pub mod Bench
pub mod Warnings
