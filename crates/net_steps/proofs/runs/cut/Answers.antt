use Rattle.std.proofs.Common.{◌≡◌, ◌+◌, IfSome, Option, length, take, drop, sym, ap, subst, ◌∙◌, arith}
use Rattle.net_steps.specs.Runs.{all_operations, operations_of}
use Rattle.net_steps.specs.declared.runs.Run.{Run}
use Rattle.net_steps.proofs.RunLemmas.{cut_more, rest_is, taken_fits}
use Rattle.net_steps.proofs.runs.cut.Goals as goal
use Rattle.net_steps.proofs.runs.cut.Goals.{then-number-done+in_ok-run+in-Some+in_ok-push_mixed+in_ok-push, else-number-done}

pub loop-number-preserved : goal.loop-number-preserved
loop-number-preserved c =
    elim c.if-number-done.branch [
      | then-number-done+in_ok-run+in-Some+in_ok-push_mixed+in_ok-push w ↦
          let steps = c.args.steps.now in
          let number = c.loop-number.number in
          let run = w.in-Some.run' in
          let P : Option Run → Type 0 = λ found. IfSome found (λ (one : Run). operations_of one ≡ take (length (operations_of one)) (drop number steps)) in
          let run_is : operations_of run ≡ take (length (operations_of run)) (drop number steps) =
          subst P w.in-Some.is (subst (λ rest. IfSome w.in_ok-run.field-0 (λ (one : Run). operations_of one ≡ take (length (operations_of one)) rest)) (rest_is number steps) w.in_ok-run.ensures) in
          let fits = taken_fits (operations_of run) steps number c.loop-number-test.true run_is in
          let place : c.if-number-done.done ≡ number + length (operations_of run) = w.done-is ∙ ap (λ n. number + n) w.count.ensures in
          record {
            done = omega (arith, place, fits);
            all = ap (λ v. all_operations v.items) w.runs-is ∙ ap all_operations w.in_ok-push.ensures.items
                ∙ cut_more steps c.loop-number.runs.items w.push_mixed.new.runs.items c.loop-number.done number run w.if-number-done.true c.loop-number.invariant.all w.in_ok-push_mixed.ensures run_is
                ∙ ap (λ n. take n steps) (sym place);
          }
      | else-number-done w ↦
          record {
            done = omega (arith, w.done-is, c.loop-number.invariant.done);
            all = ap (λ v. all_operations v.items) w.runs-is ∙ c.loop-number.invariant.all ∙ ap (λ n. take n c.args.steps.now) (sym w.done-is);
          }
    ]
