pub mod Limits
pub mod Calls
pub mod Look
pub mod Links
pub mod Heap
pub mod Long
pub mod Small
pub mod Leaves
