-- Texts by numbers. This project's.
use Rattle.std.specs.Prelude.{List}
use Rattle.hw_names.specs.Name.{Text}

-- names, and all texts, of which the names are the first; a text's number is its place among all
pub record TextList : Type 0 where
  pub names : List Text
  pub all : List Text
