use Rattle.std.proofs.Common.{◌≡◌, length}
use Rattle.cal_ast.specs.declared.tree.Group.{Group}
use Rattle.cal_walk.proofs.TableLemmas.{Tells}
use Rattle.cal_walk.proofs.planning.Numbers.number_groups.Given as goal

-- the groups so far are numbered
abbrev pub invariant-loop-number : goal.invariant-loop-number
invariant-loop-number l = record {
  sized : length l.self.groups.items ≡ length l.initial.self.groups.items;
  tells : Tells (λ (g : Group). g.name.0) (λ number g. number) l.groups l.number l.self.groups.items;
  made : l.self.made.items ≡ l.initial.self.made.items;
}
