-- What is proved of the machine, a room each. A room X is the file X.antt, whose head says what the room shows and in which order its files
-- are read, and the folder X/ beside it. In a reader's order:
--  * Base: laws of words, searches, schedules and lists of operations.
--  * Invariant: who may touch what when.
--  * Acts: what each act comes to, walked once for all that is proved of every act.
--  * AnyStore: wear and answers of any store, grown or made by hand.
--  * Lines: each of the 51 lines keeps to the invariant.
--  * Progress: demand 1. Nothing faults, and somebody can step.
--  * EitherOrder: demand 3, first half.
--  * Manager: demand 2. Reads, writes and unmaps answer as the atomic manager, and schedules are linearizable.
--  * OneAtATime: demand 3, second half.
pub mod Base
pub mod Invariant
pub mod Acts
pub mod AnyStore
pub mod Lines
pub mod Progress
pub mod EitherOrder
pub mod Manager
pub mod OneAtATime
