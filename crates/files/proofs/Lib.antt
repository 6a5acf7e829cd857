pub mod Fitted
pub mod Meaning
pub mod NoRows
pub mod PrintedTexts
pub mod Shown
