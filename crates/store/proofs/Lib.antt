-- The laws that the functions' proofs and the crates above cite, a file a subject.
pub mod LastLines
pub mod Bytes
pub mod Decode
pub mod Sets
pub mod Sound
pub mod Codec
pub mod Range
pub mod Tables
pub mod Filling
