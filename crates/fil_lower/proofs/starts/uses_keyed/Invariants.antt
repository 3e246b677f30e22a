use Rattle.std.proofs.Common.{◌≡◌, ◌<◌, ℕ, All, length, map, filter, take, slice_get, Some}
use Rattle.hw_names.specs.Name.{Text}
use Rattle.hw_graph.specs.Groups.{with_key}
use Rattle.hw_graph.specs.declared.groups.Entry.{Entry}
use Rattle.fil_ast.specs.Naming.{instance_names}
use Rattle.fil_ast.specs.Scope.{Scope}
use Rattle.fil_share.specs.declared.uses.Use.{Use}
use Rattle.fil_lower.specs.inside.Place.{ShowsBody, is_of}
use Rattle.fil_lower.proofs.starts.uses_keyed.Given as goal

-- each instance has the numbers of its uses so far
abbrev pub invariant-loop-number : goal.invariant-loop-number
invariant-loop-number l = record {
  small : (scope : Scope) → ShowsBody l.body scope → All (λ (e : Entry). e.key < length scope.instances) l.entries.items;
  keyed : (scope : Scope) → ShowsBody l.body scope → (n : ℕ) (inst : Text) → slice_get (instance_names scope.instances) n ≡ Some inst
      → map (slice_get l.body.uses.items) (with_key n l.entries.items) ≡ map (λ (u : Use). Some u) (filter (is_of l.body.names.now inst) (take l.number l.body.uses.items));
}
