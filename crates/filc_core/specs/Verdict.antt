-- The verdict: what comes of words, where files have these contents. This project's.
use Rattle.std.specs.Prelude.{◌≡◌, List}
use Rattle.hw_names.specs.Name.{Text}
use Rattle.filc_stop.specs.Outcome.{Contents, Outcome, usage_told}
use Rattle.filc_core.specs.Request.{Request, command_of, Asks, AskNothing}

-- the design that the command makes has this text; where it makes none, the text is empty
pub data Verdict (words : List Text) (contents : Contents) (made : Text) (o : Outcome) : Type 0 where
  NotAsked : AskNothing words → o ≡ usage_told → Verdict words contents made o
  Asked : (r : Request) → Asks words r → (command_of r).comes contents made o → Verdict words contents made o
