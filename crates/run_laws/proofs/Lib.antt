pub mod SpelledForms
pub mod SpelledNames
pub mod FormedSignatures
pub mod SoundProblems
pub mod FoundAnswers
