use Rattle.std.proofs.Common.{ℕ, ◌<◌, List}
use Rattle.hw_names.specs.Name.{Text}
use Rattle.fil_ast.specs.Scope.{Scope, Invocation}
use Rattle.fil_ast.specs.declared.tree.FilComp.{FilComp}
use Rattle.fil_sig.specs.Seen.{seen}
use Rattle.fil_rules.specs.inside.Shared.{IsInvoked}
use Rattle.fil_rules.specs.inside.Sharing.{KeepsApartAt}
use Rattle.fil_place.specs.Starts.{ListsUses}
use Rattle.fil_place.specs.Tables.{calls_at}
use Rattle.fil_rules.proofs.sharing.apart.keeps_apart.Given as goal

-- the events so far keep F11
abbrev pub invariant-loop-number : goal.invariant-loop-number
invariant-loop-number l =
    (names : List Text) (comp : FilComp) (with : Scope) (v : Invocation)
    → IsInvoked names comp l.tables (calls_at l.tables l.instance) (seen l.sig) l.at with v → ListsUses l.tables l.instance with v.inst → (k : ℕ) → k < l.number → KeepsApartAt with v k
