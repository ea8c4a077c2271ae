pub mod Drawing
pub mod Escaped
pub mod Grid
pub mod Marks
pub mod MomentLine
pub mod Svg
