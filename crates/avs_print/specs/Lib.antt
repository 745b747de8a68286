pub mod Printed
pub mod WithoutLines
pub mod Laws
