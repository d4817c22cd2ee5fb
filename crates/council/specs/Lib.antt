pub mod Councils
pub mod Statements
pub mod Signatures
pub mod Signing
pub mod Certificates
