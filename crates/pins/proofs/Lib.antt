pub mod Shifts
pub mod Rising
pub mod Lasts
