pub mod Damage
pub mod Lines
pub mod Judged
pub mod Buffer
