pub mod EventLaws
pub mod StepLaws
pub mod PlaceLaws
