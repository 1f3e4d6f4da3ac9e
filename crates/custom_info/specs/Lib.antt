pub mod Fields
pub mod Kinds
pub mod TypeDocuments
pub mod HoistedScopes
pub mod AsyncStepping
