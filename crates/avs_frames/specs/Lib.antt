pub mod Seen
pub mod ExprViews
pub mod Open
pub mod ScriptViews
