pub mod InBytes
pub mod Placed
pub mod Signs
pub mod Wrapping
