mod Moved
mod Stays
mod Pair
mod Turns
mod Waits
mod Walks
