-- What a command is given. What it isn't asked for is empty: a name without bytes, 0, and of the languages the netlists'. This project's.
use Rattle.std.specs.Prelude.{ℕ}
use Rattle.hw_names.specs.Name.{Text}
use Rattle.filc_stop.specs.declared.language.Language.{Language}

pub record Arguments : Type 0 where
  -- the language of its design, and the name of that design's file
  pub language : Language
  pub design : Text
  -- the name of its stimulus's file
  pub stimulus : Text
  -- a number of cycles, or of transactions
  pub count : ℕ
