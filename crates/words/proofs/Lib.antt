pub mod Codec
pub mod Formats
