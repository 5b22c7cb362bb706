pub mod Beginning
pub mod Merged
pub mod Opening
pub mod Refusals
pub mod Space
pub mod UnderWay
pub mod Whole
