use Rattle.std.proofs.Common.{◌≡◌, ◌++◌, ◌==◌, ◌≤◌, take}
use Rattle.hw_names.specs.Name.{text_of}
use Rattle.hw_names.specs.declared.names.NameId.{NameId}
use Rattle.net_core.specs.declared.net.Guard.{size-Guard}
use Rattle.net_core.specs.Guard.{guard_tree}
use Rattle.net_core.specs.Numbers.{GuardHasNumbers}
use Rattle.net_text.specs.Layout.{guard_text, guards_text}
use Rattle.net_text.specs.inside.View.{guards_of}
use Rattle.net_text.proofs.print.+guards.Given as goal

abbrev pub invariant-put_guard-loop-rest : goal.invariant-put_guard-loop-rest
invariant-put_guard-loop-rest l =
    (size-Guard NameId l.rest ≤ size-Guard NameId l.guard)
    × GuardHasNumbers l.names l.rest
    × (l.out.items ++ guard_text (guard_tree (text_of l.names) l.rest) ≡ l.initial.out.items ++ guard_text (guard_tree (text_of l.names) l.guard))

abbrev pub invariant-put_guards-loop-guard : goal.invariant-put_guards-loop-guard
invariant-put_guards-loop-guard l =
    (l.first ≡ (l.guard-index == 0))
    × (l.out.items ≡ l.initial.out.items ++ guards_text l.between (guards_of l.names (take l.guard-index l.guards)))
