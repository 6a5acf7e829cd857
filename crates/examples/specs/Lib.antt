pub mod Places
pub mod Worked
