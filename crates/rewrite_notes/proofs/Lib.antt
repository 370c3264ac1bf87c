pub mod ErrorTexts
pub mod Numbers
