mod LookingBack
mod ReadingPast
mod Seeing
