pub mod Bytes
pub mod Cells
pub mod Filled
pub mod Parts
