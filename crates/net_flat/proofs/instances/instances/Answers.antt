use Rattle.std.proofs.Common.{◌≡◌, ℕ, List, length, add-one, sym, subst, arith}
use Rattle.cal_ast.specs.Tree.{component_tree, design_of}
use Rattle.net_flat.specs.inside.Levels.{level, levels}
use Rattle.net_flat.specs.inside.Placed.{AreInstances}
use Rattle.net_flat.specs.declared.instances.Instance.{Instance}
use Rattle.net_flat.proofs.FoundLemmas.{instances_append, instances_none, top_alone}
use Rattle.net_flat.proofs.instances.instances.Goals as goal

pub loop-init : goal.loop-init
loop-init c =
    let d = c.args.design.now in
    let i : Instance = record { prefix = c.new-prefix.result; comp = c.args.top } in
    record {
      before = rw c.new-found.ensures.items (instances_none d.names);
      next = rw c.in_ok-level.ensures.items (top_alone d.names i c.new-prefix.ensures.items c.requires.top);
    }

pub loop-preserved : goal.loop-preserved
loop-preserved c =
    let d = c.args.design.now in
    let top = component_tree d.names c.args.top.now in
    let n = c.loop.counter in
    let next = c.in_ok-next.ensures (level (design_of d) top n) (subst (λ (is : List Instance). AreInstances d.names (level (design_of d) top n) is) (sym c.deref.ensures.value) c.loop.invariant.next) in
    let all = instances_append d.names (levels (design_of d) top n) (level (design_of d) top n) c.loop.found.items c.loop.level.items c.loop.invariant.before c.loop.invariant.next in
    record {
      before = rw (add-one, c.in_ok-append.ensures.items) all;
      next = rw add-one next;
    }

pub returns : goal.returns
returns c =
    let d = c.args.design.now in
    let top = component_tree d.names c.args.top.now in
    let all : c.loop.counter ≡ length d.comps.items = omega arith in
    subst (λ (n : ℕ). AreInstances d.names (levels (design_of d) top n) c.loop.found.items) all c.loop.invariant.before
