-- The laws that the machine's proofs cite.
pub mod Search
pub mod Storing
pub mod Inside
