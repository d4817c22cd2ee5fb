pub mod Frames
pub mod Law
pub mod Sole
