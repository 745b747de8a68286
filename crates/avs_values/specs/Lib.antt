pub mod Binding
pub mod Views
pub mod Values
pub mod Operators
pub mod Functions
pub mod Laws
