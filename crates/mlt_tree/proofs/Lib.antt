pub mod Allowed
mod AttachRows
mod Bound
pub mod Counts
pub mod Determined
mod Divided
mod EditRows
mod FilterRows
pub mod FitsTree
pub mod Kept
mod LevelRows
mod LoadRows
mod LoadedRows
mod MeaningRows
mod MergeRows
mod Options
pub mod Past
mod PlantRows
mod ReadingRows
mod Rows
pub mod StepRanges
mod Trace
mod UnitRows
mod WordRows
