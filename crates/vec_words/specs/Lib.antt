pub use Rattle.vec_world.specs as VecWorld
pub mod Logged
pub mod Tokens
pub mod View
pub mod Rule
pub mod Stores
