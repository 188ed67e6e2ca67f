pub mod Impulse
