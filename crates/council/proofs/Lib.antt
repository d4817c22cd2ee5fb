pub mod Quorums
pub mod Tests
pub mod Same
pub mod Empty
pub mod Certified
