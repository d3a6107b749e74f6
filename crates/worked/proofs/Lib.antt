pub mod Lists
pub mod Stays
pub mod Sures
pub mod Steadies
pub mod Walls
pub mod Tables
pub mod Texts
pub mod Books
