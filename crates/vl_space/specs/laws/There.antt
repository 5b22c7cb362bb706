-- The files in use stand, and each retired one can be removed.
pub mod Going
pub mod Kept
pub mod Left
pub mod Swept
pub mod Taking
