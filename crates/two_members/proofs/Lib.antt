pub mod MemberLaws
pub mod OutcomeLaws
