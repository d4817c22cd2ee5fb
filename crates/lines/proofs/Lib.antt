pub mod Ends
pub mod Fronts
