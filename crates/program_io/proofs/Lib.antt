pub mod Ended
mod KnownInput
mod KnownOutput
mod LocationsFound
mod Prompted
pub mod Printed
mod RefusedNotes
