pub mod Asked
pub mod NotBegun
pub mod Printed
pub mod Ranges
pub mod Serving
