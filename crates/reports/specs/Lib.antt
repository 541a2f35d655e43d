pub mod Carrying
pub mod Reasons
pub mod Reporting
pub mod Text
