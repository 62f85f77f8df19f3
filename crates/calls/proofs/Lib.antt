-- The laws that the calls' proofs cite, that their contracts determine what comes back, and that a value is a word.
pub mod Replies
pub mod Fresh
pub mod Determined
pub mod Values
