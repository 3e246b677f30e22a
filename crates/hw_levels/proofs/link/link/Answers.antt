use Rattle.std.proofs.Common.{◌+◌, arith, sym, subst₂, Vec, Global}
use Rattle.hw_graph.specs.declared.groups.Entry.{Entry}
use Rattle.hw_levels.specs.declared.link.Chains.{Chains}
use Rattle.hw_levels.proofs.link.link.Invariants.{IsLinked}
use Rattle.hw_levels.proofs.link.link.Goals as goal
use Rattle.hw_levels.proofs.link.link.Goals.{then-port+in_ok-add_input, else-port+in_ok-add_output}

pub loop-port-preserved : goal.loop-port-preserved
loop-port-preserved c =
    let old = c.args.entries.now.items in
    let count = c.args.count in
    let taken = c.loop-port.port-index + 1 in
    let so_far = c.loop-port.invariant in
    elim c.if-port.branch [
      | then-port+in_ok-add_input w ↦
          subst₂ (λ (chains : Chains) (entries : Vec Entry Global). IsLinked count taken chains.count old entries.items) (sym w.chains-is) (sym w.entries-is)
          (record {
            from = omega (arith, w.in_ok-add_input.ensures.count, so_far.from);
            to = omega (arith, w.in_ok-add_input.ensures.count, so_far.to);
            in_range = w.in_ok-add_input.ensures.in_range;
            kept = λ entry has. w.in_ok-add_input.ensures.kept entry (so_far.kept entry has);
          })
      | else-port+in_ok-add_output w ↦
          subst₂ (λ (chains : Chains) (entries : Vec Entry Global). IsLinked count taken chains.count old entries.items) (sym w.chains-is) (sym w.entries-is)
          (record {
            from = so_far.from;
            to = omega (arith, so_far.to);
            in_range = w.in_ok-add_output.ensures.in_range;
            kept = λ entry has. w.in_ok-add_output.ensures.kept entry (so_far.kept entry has);
          })
    ]
