pub mod Courses
pub mod Ends
pub mod Laws
pub mod Properties
pub mod Rule
pub mod Situations
