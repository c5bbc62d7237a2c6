pub mod Peeling
