pub mod Octets
pub mod Regions
pub mod Listings
pub mod Declines
