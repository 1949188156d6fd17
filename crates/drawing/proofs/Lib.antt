pub mod Meant
pub mod Spans
pub mod States
pub mod StepRows
