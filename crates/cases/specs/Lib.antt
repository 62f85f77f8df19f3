-- Cases that are proved: document 01's, its numbers by their numerals, and those of document 02's requests.
pub mod Cases
pub mod Given
pub mod Rewriting
pub mod Listening
