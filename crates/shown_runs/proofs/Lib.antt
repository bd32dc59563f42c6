mod Drawings
mod NamesFound
