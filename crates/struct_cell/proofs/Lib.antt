pub use Rattle.struct_machine.proofs.CfLink as CfLink
pub use Rattle.struct_machine.proofs.ShellLaws as ShellLaws
pub use Rattle.vec_words.proofs as VecWords
pub mod Imports
pub mod PlaceLaws
pub mod SpotLaws
pub mod Binary
pub mod MirrorLaws
pub mod ShownLaws
pub mod TurnLaws
pub mod KeptLaws
pub mod LinkLaws
pub mod ToldLaws
