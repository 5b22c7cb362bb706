-- What a rotation, a flush and an install leave of the files that are kept as in use, and of those that wait for their removal.
pub mod Flushing
pub mod Installing
pub mod Installs
pub mod Rotating
