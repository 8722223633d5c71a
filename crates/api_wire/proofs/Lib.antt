mod Segments
pub mod JsonValues
pub mod Demands
