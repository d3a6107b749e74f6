pub mod Layers
pub mod Piles
pub mod PileLaws
pub mod LayerLaws
