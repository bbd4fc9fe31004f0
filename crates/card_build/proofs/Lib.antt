pub mod BuildLaws
pub mod AnswerLaws
