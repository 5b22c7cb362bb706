-- What look-ups in the tables of all levels answer.
pub mod LevelsLooked
pub mod LevelTables
pub mod LookedUp
pub mod Looks
pub mod Marks
