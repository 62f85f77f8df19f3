-- What the exported contracts say; what an answer says; and what begin and step do first.
pub mod Means
pub mod Answering
pub mod Opening
