pub mod Counting
pub mod Naming
pub mod Tallies
pub mod Folded
