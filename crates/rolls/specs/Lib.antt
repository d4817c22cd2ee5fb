pub mod Shapes
pub mod Rolls
