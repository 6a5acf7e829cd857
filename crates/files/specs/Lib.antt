pub mod Checked
pub mod Compared
pub mod Meant
pub mod Printed
pub mod Refusals
pub mod Written
