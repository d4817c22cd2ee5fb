pub mod Masks
pub mod Senders
