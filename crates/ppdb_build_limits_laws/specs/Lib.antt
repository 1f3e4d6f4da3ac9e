pub mod Unlimited
pub mod Limits
