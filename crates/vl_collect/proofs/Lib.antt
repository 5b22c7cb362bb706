mod Apart
mod Failing
mod Frames
mod Outcomes
mod Rising
mod Rooms
mod Stills
mod Walking
