pub mod Plain
pub mod Faithful
pub mod Strange
pub mod Moves
pub mod Promises
pub mod Lines
