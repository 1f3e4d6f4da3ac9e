pub mod Valid
pub mod Identities
pub mod Canonical
