-- What must be believed of the store area, in a reader's order.
pub mod Layout
pub mod Area
pub mod Live
pub mod Calls
