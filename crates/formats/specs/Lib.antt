pub mod Lines
pub mod LabelLine
pub mod TableText
pub mod Reading
pub mod Forms
