pub mod EditErrors
pub mod Ledger
pub mod States
pub mod Views
