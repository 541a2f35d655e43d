pub mod Formats
pub mod Laws
pub mod Lines
pub mod Prefix
pub mod Sofar
pub mod Verdicts
