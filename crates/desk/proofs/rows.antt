pub mod BatchRows
pub mod FalseVariants
pub mod Rows
