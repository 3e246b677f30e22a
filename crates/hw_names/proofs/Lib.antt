pub mod NameLemmas
mod OwnedTexts
