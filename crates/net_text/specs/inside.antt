-- What only the functions inside the crate are specified by.
pub mod ReadGuards
pub mod ReadLines
pub mod ReadResults
pub mod ReadTexts
pub mod ReadWords
pub mod View
