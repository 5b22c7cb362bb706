mod Deciding
mod Knowing
mod Pruning
