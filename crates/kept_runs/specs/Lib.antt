pub mod Clocks
pub mod Items
pub mod Works
pub mod Rule
pub mod Known
pub mod KeptLaws
pub mod OrderLaws
pub mod WorkLaws
