pub mod Long
pub mod Inside
pub mod Matched
pub mod Deleted
pub mod Fresh
pub mod Kept
