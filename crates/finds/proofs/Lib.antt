pub mod Fronts
pub mod BackScans
pub mod Marks
pub mod SteadyWalls
pub mod Begins
