use Rattle.std.proofs.Common.{◌≡◌, ◌≤◌, map, take}
use Rattle.hw_names.specs.Name.{KeepsTexts}
use Rattle.cal_ast.specs.Numbers as cal
use Rattle.net_core.specs.Guard.{guard_tree}
use Rattle.net_core.specs.declared.net.Guard.{size-Guard}
use Rattle.net_flat.specs.inside.Placed.{port_text}
use Rattle.net_flat.specs.inside.StandFor.{AreGuards, negations}
use Rattle.net_flat.proofs.guards.+guard_at.Given as goal

-- the guard is what is left behind so many `!`, and that has numbers and is no deeper
abbrev pub invariant-guard_at-loop-inner : goal.invariant-guard_at-loop-inner
invariant-guard_at-loop-inner l =
    record {
      kept : KeepsTexts l.initial.names l.names;
      rest : negations l.count (guard_tree (port_text l.source l.prefix) l.inner) ≡ guard_tree (port_text l.source l.prefix) l.guard;
      numbers : cal.GuardHasNumbers l.source l.inner;
      depth : size-Guard _ l.inner ≤ size-Guard _ l.guard;
    }

abbrev pub invariant-guards_at-loop-guard : goal.invariant-guards_at-loop-guard
invariant-guards_at-loop-guard l =
    record {
      kept : KeepsTexts l.initial.names l.names;
      guards : AreGuards l.names (map (guard_tree (port_text l.source l.prefix)) (take l.guard-index l.guards)) l.found.items;
    }
