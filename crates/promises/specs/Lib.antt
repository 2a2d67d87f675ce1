pub mod Solvable
pub mod Rows
pub mod Buffers
pub mod Solving
pub mod Checking
pub mod Promises
