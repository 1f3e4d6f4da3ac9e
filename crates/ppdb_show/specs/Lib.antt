pub mod Bound
pub mod Lookup
pub mod Noted
pub mod Query
pub mod QueryWalk
pub mod Show
pub mod ShowWalk
