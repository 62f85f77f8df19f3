-- What must be believed of the wear sheet, in a reader's order. Refusal and Room are for contracts between our own functions, and Samples computes.
pub mod Sheet
pub mod Adding
pub mod Refusal
pub mod Room
pub mod Samples
