-- Lines as they are carried out, whichever they are.
pub mod AllRows
pub mod Passed
pub mod Ruled
pub mod Sweeps
pub mod Unmoved
