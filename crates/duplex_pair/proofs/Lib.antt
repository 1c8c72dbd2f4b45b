pub use Rattle.cf_link.proofs as CfLink
