pub mod Generator
pub mod Numbers
pub mod Script
pub mod Steps
pub mod Summary
pub mod Text
pub mod Words
