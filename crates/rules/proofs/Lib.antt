pub mod Lawful
pub mod Files
pub mod WallLaws
pub mod RunLaws
pub mod RunLists
