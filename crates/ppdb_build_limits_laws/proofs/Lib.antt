pub mod Steps
pub mod Points
pub mod Unlimited
pub mod Limits
pub mod Lists
pub mod Narrow
pub mod PastEnd
