mod opening
mod repairs
mod crash
