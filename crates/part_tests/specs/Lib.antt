pub mod Counting
pub mod CountedView
pub mod CountingLaws
