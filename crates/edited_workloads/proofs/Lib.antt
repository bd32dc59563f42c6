mod Texts
mod Unedited
