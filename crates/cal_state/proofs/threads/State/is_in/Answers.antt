use Rattle.std.proofs.Common.{ℕ, IfOk, subst}
use Rattle.net_core.specs.Guard.{Compares}
use Rattle.net_core.specs.declared.net.Cmp.TheVariants.{Eq}
use Rattle.net_core.specs.declared.net.Src.TheVariants.{Lit, Port}
use Rattle.cal_lower.specs.inside.Pieces.{shown}
use Rattle.cal_lower.specs.inside.Shown.{ShowsGuard}
use Rattle.cal_state.specs.inside.States.{thread_name, width_of}
use Rattle.cal_state.proofs.threads.State.is_in.Goals as goal

pub returns : goal.returns
returns c = λ names state are shows.
    let P : ℕ → Type 0 = λ n. IfOk c.compare.result (ShowsGuard names (Compares Eq (Port (shown (thread_name state.thread))) (Lit (width_of state.thread) n))) in
    subst P shows.number (c.compare.ensures names state.thread are shows.thread)
