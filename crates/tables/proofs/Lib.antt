pub mod Lines
pub mod Tablings
