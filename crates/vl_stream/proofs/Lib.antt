mod Bodies
mod Ended
mod Filling
mod Framed
mod Headers
mod PackedLaws
mod SeriesAbove
mod Sizes
