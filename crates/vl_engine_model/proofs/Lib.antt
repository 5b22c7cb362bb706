mod GarbageLaws
mod Rows
mod Scripts
mod Uncovered
mod Views
