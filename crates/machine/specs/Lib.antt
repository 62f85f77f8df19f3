-- What the contracts between the machine's own functions cite.
pub mod Judging
pub mod Settling
