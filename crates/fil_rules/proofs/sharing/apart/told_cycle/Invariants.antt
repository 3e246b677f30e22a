use Rattle.std.proofs.Common.{List}
use Rattle.hw_names.specs.Name.{Text}
use Rattle.fil_ast.specs.Scope.{Scope, Invocation}
use Rattle.fil_ast.specs.declared.tree.FilComp.{FilComp}
use Rattle.fil_sig.specs.Seen.{seen}
use Rattle.fil_rules.specs.inside.Shared.{IsInvoked}
use Rattle.fil_rules.proofs.SharingLemmas.{ApartBelow}
use Rattle.fil_rules.proofs.sharing.apart.told_cycle.Given as goal

-- the invocation is apart from the earlier ones so far
abbrev pub invariant-loop-call : goal.invariant-loop-call
invariant-loop-call l =
    (names : List Text) (comp : FilComp) (with : Scope) (v : Invocation) (is : IsInvoked names comp l.tables l.calls (seen l.sig) l.at with v)
    → ApartBelow names comp l.tables l.calls (seen l.sig) l.at with v is l.call-index
