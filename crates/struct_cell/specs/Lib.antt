pub use Rattle.struct_machine.specs.CfIo as CfIo
pub use Rattle.struct_machine.specs.CfLink as CfLink
pub use Rattle.struct_machine.specs.ShellLaws as ShellLaws
pub use Rattle.vec_words.specs as VecWords
pub use Rattle.vec_words.specs.VecWorld as VecWorld
pub mod Words
pub mod Touches
pub mod Limits
pub mod Cells
pub mod Telling
pub mod LinkCounts
pub mod Calls
pub mod Marks
pub mod Journals
