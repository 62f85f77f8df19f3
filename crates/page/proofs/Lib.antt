-- The laws that the functions' proofs cite.
pub mod Paging
