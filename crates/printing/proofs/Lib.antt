-- Laws of a report that is printed a piece at a time; what a report is is reporting's.
pub mod Gone
