pub mod Once
pub mod Runs
pub mod Verdicts
