pub mod Inputs
pub mod Lines
pub mod Programs
pub mod Reading
pub mod Inside
pub mod Growing
pub mod Skids
