pub mod Leads
pub mod Settings
