-- What lines that read are answered, where nothing is known of the store.
pub mod Going
pub mod Lines
pub mod Looking
pub mod Merging
pub mod Naming
pub mod Passing
