pub use Rattle.duplex_pair.proofs.CfLink as CfLink
pub use Rattle.engine_api.proofs as EngineApi
pub use Rattle.shell_laws.proofs as ShellLaws
pub mod Imports
mod RefusalLaws
pub mod ChangeLaws
mod FacilityLaws
mod InstanceLaws
mod DeedLaws
mod KeptLaws
mod CommandLaws
mod ContentLaws
mod LossLaws
mod AskingLaws
mod TurnLaws
mod CopyLaws
mod BeforeLaws
