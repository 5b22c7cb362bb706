-- Lines as they are carried out, whichever they are.
pub mod Moves
pub mod Parts
