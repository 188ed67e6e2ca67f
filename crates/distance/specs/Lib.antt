pub mod Axes
pub mod Distance
pub mod Root
