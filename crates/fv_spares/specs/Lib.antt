pub mod Spares
