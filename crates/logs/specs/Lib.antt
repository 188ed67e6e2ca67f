pub mod Checking
pub mod Checks
pub mod InSessions
pub mod Logs
pub mod Writing
