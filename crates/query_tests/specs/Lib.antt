pub mod Pick
pub mod PickLaws
pub mod Cells
pub mod CellLaws
pub mod Web
pub mod WebLaws
