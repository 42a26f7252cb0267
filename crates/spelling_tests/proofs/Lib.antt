pub mod WholeTexts
