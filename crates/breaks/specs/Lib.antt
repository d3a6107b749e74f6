pub mod Chars
pub mod Tables
pub mod Places
pub mod Meaning
pub mod Pages
pub mod TableLaws
pub mod CharLaws
pub mod ScanLaws
