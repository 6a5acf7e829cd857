pub mod Faults
pub mod Fields
pub mod Layouts
pub mod Reading
pub mod Sizes
pub mod Undoing
