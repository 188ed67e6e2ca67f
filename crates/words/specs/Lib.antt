pub mod Bytes
pub mod Masses
pub mod Numbers
pub mod Signed
pub mod Words
