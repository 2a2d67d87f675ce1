pub mod Inside
pub mod Joint
pub mod Panel
pub mod Ready
pub mod Questions
pub mod Matched
