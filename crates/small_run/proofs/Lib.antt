mod Rows
mod Names
mod Places
mod Values
mod Terms
mod Selection
mod Exits
mod Whole
