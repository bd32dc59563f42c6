mod Begun
mod Befores
mod Rowed
mod Counts
mod Firsts
mod Settings
mod Counting
