pub mod LargeTicks
pub mod Laws
pub mod Locality
pub mod Outcomes
pub mod Rotations
pub mod Runs
pub mod Stacks
pub mod Transparency
