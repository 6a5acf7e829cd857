pub mod Actions
pub mod Clauses
pub mod Families
pub mod Lists
