use Rattle.std.proofs.Common.{◌≡◌, ◌≤◌, map, take}
use Rattle.hw_names.specs.Name.{text_of}
use Rattle.net_core.specs.Guard.{guards_of, guard_tree}
use Rattle.net_core.specs.inside.Kept.{kept_by_guard, kept_by_guards}
use Rattle.net_core.specs.Numbers.{GuardHasNumbers}
use Rattle.net_core.specs.declared.net.Guard.{size-Guard}
use Rattle.net_core.proofs.sets.+guard_kept.Given as goal

-- what is left keeps what the guard keeps, has numbers that have texts, and is no deeper
abbrev pub invariant-guard_kept-loop-inner : goal.invariant-guard_kept-loop-inner
invariant-guard_kept-loop-inner l =
    (kept_by_guard l.ports (guard_tree (text_of l.names) l.inner) ≡ kept_by_guard l.ports (guard_tree (text_of l.names) l.guard))
    × GuardHasNumbers l.names l.inner
    × (size-Guard _ l.inner ≤ size-Guard _ l.guard)

abbrev pub invariant-guards_kept-loop-guard : goal.invariant-guards_kept-loop-guard
invariant-guards_kept-loop-guard l =
    l.kept ≡ kept_by_guards l.ports (guards_of (map (guard_tree (text_of l.names)) (take l.guard-index l.guards)))
