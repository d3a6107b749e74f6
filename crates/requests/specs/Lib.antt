pub mod Bases
pub mod Decimals
pub mod TableRules
