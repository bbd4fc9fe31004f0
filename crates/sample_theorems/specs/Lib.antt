-- The specs of `sample_theorems`: a sample by the rules, and who gets which refusal.
pub mod Named
pub mod Questions
