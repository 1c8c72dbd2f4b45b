pub mod Losses
pub mod ShellView
pub mod Verdicts
