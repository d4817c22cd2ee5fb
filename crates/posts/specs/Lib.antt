pub mod Effects
pub mod Judging
pub mod Posts
pub mod Seats
pub mod Taking
