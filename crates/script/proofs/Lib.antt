-- The laws that the functions' proofs cite, a file a subject.
mod Reading
mod Cutting
pub mod Writing
mod Formats
mod Front
mod Running
mod RoundTrip
