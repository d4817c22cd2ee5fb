pub mod Next
pub mod Intake
