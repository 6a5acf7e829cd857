pub mod Joining
pub mod Placing
pub mod Putting
