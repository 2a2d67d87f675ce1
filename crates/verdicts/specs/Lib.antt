pub mod Triples
pub mod Verdict
pub mod Check
pub mod Checkable
pub mod Skids
