pub mod Utf8
pub mod Vocabulary
pub mod Map
pub mod Calls
pub mod Steps
