-- What must be believed of the machine, in a reader's order.
pub mod Table
pub mod Numbers
pub mod Limits
pub mod Store
pub mod Holding
pub mod Programs
pub mod Choosing
pub mod Chosen
pub mod Step
pub mod Needs
pub mod Call
pub mod Counting
pub mod Manager
pub mod Schedule
pub mod Demands
pub mod Guarding
