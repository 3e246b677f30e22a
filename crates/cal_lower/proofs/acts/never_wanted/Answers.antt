use Rattle.std.proofs.Common.{[], ◌∷◌, List, length, All, sym, ap, subst, arith}
use Rattle.std.proofs.lemmas.List.{length-append}
use Rattle.std.proofs.lemmas.List.Elements.{All-nil, All-push}
use Rattle.cal_ast.specs.Numbers.{GuardHasNumbers}
use Rattle.net_core.specs.declared.net.Guard.{Guard}
use Rattle.cal_ast.specs.declared.tree.CalPort.{CalPort}
use Rattle.cal_lower.specs.inside.Shown.{ShowsGuards, ShowsWanted, seen_guard}
use Rattle.cal_lower.specs.declared.acts.Wanted.{Wanted}
use Rattle.cal_lower.proofs.GrownLemmas.{show_none}
use Rattle.cal_lower.proofs.acts.never_wanted.Goals as goal

pub loop-init : goal.loop-init
loop-init c = record {
  count = ap length c.new-all.ensures.items;
  nothing = λ names.
      let A : List Wanted → Type 0 = All (ShowsWanted names [] []) in
      subst A (sym c.new-all.ensures.items) (All-nil (ShowsWanted names [] []));
}

pub loop-preserved : goal.loop-preserved
loop-preserved c =
    let before = c.loop.all.items in
    let w : Wanted = record { enabled = c.new.result; tested = c.new-in-loop.result } in
    record {
      count = omega (arith, ap length c.in_ok-push.ensures.items, length-append before (w ∷ []), c.loop.invariant.count);
      nothing = λ names.
          let A : List Wanted → Type 0 = All (ShowsWanted names [] []) in
          let G : List (Guard CalPort) → Type 0 = ShowsGuards names [] in
          let none = show_none GuardHasNumbers seen_guard names in
          let here : ShowsWanted names [] [] w = record { enabled = subst G (sym c.new.ensures.items) none; tested = subst G (sym c.new-in-loop.ensures.items) none } in
          subst A (sym c.in_ok-push.ensures.items) (All-push (ShowsWanted names [] []) before w (c.loop.invariant.nothing names) here);
    }

pub returns-clause-count : goal.returns-clause-count
returns-clause-count c = omega (arith, c.loop.invariant.count, c.loop-test.false, c.loop.auto.counter-end)

pub returns-clause-nothing : goal.returns-clause-nothing
returns-clause-nothing c = λ names. c.loop.invariant.nothing names
