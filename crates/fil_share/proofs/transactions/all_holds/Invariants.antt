use Rattle.std.proofs.Common.{◌≡◌, ◌++◌, All, drop, map, flat_map}
use Rattle.fil_ast.specs.Holds.{holds_from, holds_of}
use Rattle.fil_ast.specs.Scope.{Scope}
use Rattle.fil_ast.specs.Tree.{component_tree}
use Rattle.fil_share.specs.Uses.{HoldHasNumbers, held_by, shown_hold, shown_use, starts_of}
use Rattle.fil_share.proofs.transactions.all_holds.Given as goal

-- the holds so far, which have numbers, and those of the transactions that are left, are all
abbrev pub invariant-loop-number : goal.invariant-loop-number
invariant-loop-number l = record {
  shown : (scope : Scope) → map (shown_use l.names) l.uses ≡ flat_map (held_by scope) scope.invocations
      → map (shown_hold l.names) l.holds.items ++ holds_from scope l.number (starts_of (component_tree l.names l.comp) (drop l.number l.txs)) ≡ holds_of scope (starts_of (component_tree l.names l.comp) l.txs);
  numbered : All (HoldHasNumbers l.names) l.holds.items;
}
