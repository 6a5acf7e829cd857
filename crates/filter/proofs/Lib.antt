pub mod Decided
pub mod Edited
pub mod Fitting
pub mod Loaded
pub mod Shifted
pub mod Viewed
