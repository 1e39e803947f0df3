pub mod RuleExamples
pub mod TheoryExamples
