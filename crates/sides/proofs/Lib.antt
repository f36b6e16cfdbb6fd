pub mod Spelling
pub mod Reading
pub mod FormSources
pub mod EquationPairs
pub mod Prepared
