-- A verdict is of what the files tell that the words ask for.
use Rattle.std.proofs.Common.{List}
use Rattle.hw_names.specs.Name.{Text}
use Rattle.filc_stop.specs.Outcome.{Contents, Outcome}
use Rattle.filc_core.proofs.LawLemmas.{laws_of}
use Rattle.filc_core.specs.Verdict.{Verdict, NotAsked, Asked}
use Rattle.filc_laws.specs.OnlyWhatIsTold.{OnlyWhatIsTold, TellAlike}

verdict_too : (words : List Text) (contents other : Contents) (made : Text) (o : Outcome) → TellAlike words contents other → Verdict words contents made o → Verdict words other made o
verdict_too words contents other made o same (NotAsked none e) = NotAsked none e
verdict_too words contents other made o same (Asked r asks comes) = Asked r asks ((laws_of r).by_files contents other (same r asks) made o comes)

pub only_what_is_told : OnlyWhatIsTold
only_what_is_told = verdict_too
