-- Pages, their marks and their drawn forms, and the numbers that have to fit.
pub mod Limits
pub mod Marks
pub mod Pages
pub mod DrawnPages
pub mod Placing
pub mod Private
