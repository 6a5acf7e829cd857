pub mod AcceptedFiles
pub mod Files
pub mod WrittenFiles
