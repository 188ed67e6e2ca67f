pub mod Accepted
pub mod Chunks
pub mod Joined
pub mod Members
pub mod Merging
pub mod SentRows
pub mod TakenRows
pub mod Words
