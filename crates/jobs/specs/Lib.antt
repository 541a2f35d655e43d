pub mod Jobs
pub mod Listing
pub mod Records
pub mod Taking
