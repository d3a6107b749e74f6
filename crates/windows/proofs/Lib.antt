pub mod Searches
pub mod Numbers
pub mod Outsides
pub mod WindowLaws
