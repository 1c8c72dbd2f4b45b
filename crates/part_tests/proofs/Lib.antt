mod AskedLaws
pub mod ClassLaws
