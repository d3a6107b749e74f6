pub mod Cutting
pub mod Answers
pub mod Lines
pub mod CutFiles
pub mod Walls
pub mod Runs
pub mod LineLaws
pub mod Cuts
