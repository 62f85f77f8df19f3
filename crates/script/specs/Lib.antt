-- The script language: what a line says, what is printed, the whole output, and samples of it.
pub mod Syntax
pub mod Printing
pub mod Output
pub mod Turns
pub mod Samples
