pub mod PlaceLaws
pub mod SampleLaws
pub mod RefusalLaws
pub mod StayLaws
