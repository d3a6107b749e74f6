pub mod School
