-- The laws that the functions' proofs and the crates above cite, a file a subject.
pub mod Rooms
pub mod Turns
pub mod Sheets
