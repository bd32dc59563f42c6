pub mod Answered
pub mod Asking
pub mod Said
pub mod Taken
pub mod Printed
