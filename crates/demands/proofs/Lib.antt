-- What is promised of the edit program's output, proved.
pub mod Output
