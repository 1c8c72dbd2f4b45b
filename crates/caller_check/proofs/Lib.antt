pub mod ToldLaws
pub mod UntoldLaws
pub mod FirstLaws
pub mod WholeLaws
