pub mod Parts
pub mod Layout
pub mod Kinds
pub mod Reading
