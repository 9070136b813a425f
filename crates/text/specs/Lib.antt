pub mod Numbers
pub mod Words
pub mod Grammar
pub mod Texts
