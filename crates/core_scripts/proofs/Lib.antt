mod Sublists
mod Depths
mod Parts
mod Closes
mod Ends
