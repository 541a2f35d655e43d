pub mod Table
pub mod Tabling
