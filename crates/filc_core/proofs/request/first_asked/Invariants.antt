use Rattle.std.proofs.Common.{drop, map}
use Rattle.filc_core.specs.inside.Told.{AskNoneOf}
use Rattle.filc_core.proofs.request.first_asked.Given as goal

-- what no command from this one on is, none is
abbrev pub invariant-loop-command : goal.invariant-loop-command
invariant-loop-command l = AskNoneOf (drop l.command-index l.commands) (map (λ w. w.now) l.words) → AskNoneOf l.commands (map (λ w. w.now) l.words)
