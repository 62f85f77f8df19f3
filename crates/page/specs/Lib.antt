-- What must be believed of the page is in Page, with samples of it; Figure and Out are for contracts between our own functions.
pub mod Page
pub mod Figure
pub mod Out
pub mod Samples
