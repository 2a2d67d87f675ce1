pub mod Plain
pub mod Rounds
pub mod Unblocked
pub mod Solve
pub mod Skids
