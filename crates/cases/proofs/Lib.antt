pub mod K11
