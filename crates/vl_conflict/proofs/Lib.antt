pub mod Lesser
mod Balance
pub mod TreeLaws
