pub mod NameLemmas
pub mod SignatureLemmas
