mod Becoming
mod Taking
