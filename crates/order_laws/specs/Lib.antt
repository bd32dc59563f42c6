pub mod AskedCores
