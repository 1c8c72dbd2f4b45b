-- The commands of a lock structure: the first refusal that holds, and what a command does where
-- none holds.
pub mod Obtain
pub mod Alter
pub mod Release
pub mod Decide
pub mod RtRead
pub mod RtDelete
