pub mod Lists
pub mod Rows
pub mod Spread
pub mod Wanted
