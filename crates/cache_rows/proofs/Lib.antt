pub use Rattle.cache_regs.proofs as CacheRegs
pub mod Imports
pub mod IndexLaws
pub mod StoreLaws
pub mod LookupLaws
pub mod IndexedLaws
pub mod TallyLaws
pub mod CountLaws
pub mod ChangeLaws
