pub mod Axis
pub mod Bounds
pub mod Roots
