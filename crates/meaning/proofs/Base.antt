-- What the other rooms stand on; nothing here knows the invariant. To be looked up more than read:
--  * Words: H, the headers' owner and the words that name, entries of a table, and tests.
--  * Sets: locks of numbers and owners of blocks, which have readers or a writer.
--  * Searches: what the searches for a block find, and that there is a free one to be found.
--  * Choices: that it is the block which 01 asks for.
--  * Schedules: what a call comes to on any store, and schedules in two parts.
--  * Requests: those operations of a list that pass a test, and their places.
pub mod Words
pub mod Sets
pub mod Searches
pub mod Choices
pub mod Schedules
pub mod Requests
