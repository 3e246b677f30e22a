use Rattle.std.proofs.Common.{◌≡◌, ℕ, ◌+◌, ◌++◌, List, length, map, drop, get_or, refl, sym, ap, ap₂, subst, ◌∙◌, arith, Some, []}
use Rattle.std.specs.Prelude.{Bool, slice_get, vec_len}
use Rattle.std.specs.Option.{is_some}
use Rattle.std.specs.Vec.{with_items}
use Rattle.std.proofs.lemmas.Bool.Decides.{Decides-eqb}
use Rattle.std.proofs.lemmas.List.{nil_from_length, with_items_is, length-map, drop_at}
use Rattle.filc_report.specs.Intervals.{holding, ArePassed}
use Rattle.filc_report.specs.Views.{marks_in}
use Rattle.filc_report.specs.declared.intervals.Interval.{Interval}
use Rattle.filc_report.proofs.IntervalLemmas.{passed_later}
use Rattle.filc_report.proofs.view.View.set_row.Goals as goal

-- without intervals each port is marked as before
pub returns-then-is_empty : goal.returns-then-is_empty
returns-then-is_empty c =
    let old = c.args.self.now in
    let txs = c.args.txs.now in
    let shows : Interval → Bool = λ (i : Interval). is_some (holding i c.args.row txs) in
    let zero : vec_len old.intervals ≡ 0 = (Decides-eqb (vec_len old.intervals) 0).0 (sym c.is_empty.ensures ∙ c.if-is_empty.true) in
    let none : old.intervals.items ≡ [] = nil_from_length old.intervals.items (omega (arith, zero, old.intervals.ok.0)) in
    record {
      at = record {
        marks = c.requires.at.marks;
        intervals = c.requires.at.intervals;
        each = c.requires.at.each;
        passed = λ k i is. passed_later i txs (get_or old.nexts.items k 0) c.args.row (c.requires.at.passed k i is);
      };
      ports = refl;
      marks = sym (ap (λ (is : List Interval). map shows is ++ drop (length is) old.shown.items) none);
      later = λ later. refl;
    }

pub mark-requires : goal.mark-requires
mark-requires c = record {
  rise = c.requires.rise;
  each = ap length c.deref_mut.ensures.value ∙ c.requires.at.each ∙ sym (ap length c.deref.ensures.value);
  few = omega (arith, c.requires.at.intervals, ap length c.deref.ensures.value, ap length c.deref_mut-2.ensures.value);
  passed = λ k i is. subst (λ (nexts : List ℕ). ArePassed i c.args.txs.now (get_or nexts k 0) c.args.row) (sym c.deref_mut.ensures.value)
      (c.requires.at.passed k i (subst (λ (is : List Interval). slice_get is k ≡ Some i) c.deref.ensures.value is));
}

-- what the view has after the row
nexts_are : (c : goal.After-self-2-1) → (with_items c.args.self.now.nexts c.mark.new.nexts).items ≡ c.mark.new.nexts
nexts_are c = with_items_is c.args.self.now.nexts c.mark.new.nexts (omega (arith, c.mark.auto.nexts, ap length c.deref_mut.ensures.value, c.args.self.now.nexts.ok.0))

shown_are : (c : goal.After-self-2-1) → (with_items c.args.self.now.shown c.mark.new.shown).items ≡ c.mark.new.shown
shown_are c = with_items_is c.args.self.now.shown c.mark.new.shown (omega (arith, c.mark.auto.shown, ap length c.deref_mut-2.ensures.value, c.args.self.now.shown.ok.0))

same_many : (c : goal.After-self-2-1) → length (with_items c.args.self.now.shown c.mark.new.shown).items ≡ length c.args.self.now.shown.items
same_many c = ap length (shown_are c) ∙ c.mark.auto.shown ∙ ap length c.deref_mut-2.ensures.value

marks_are : (c : goal.After-self-2-1) → (with_items c.args.self.now.shown c.mark.new.shown).items ≡ marks_in c.args.self.now c.args.txs.now c.args.row
marks_are c =
    shown_are c ∙ c.mark.ensures.marks
    ∙ ap₂ (λ (is : List Interval) (old : List Bool). map (λ (i : Interval). is_some (holding i c.args.row c.args.txs.now)) is ++ drop (length is) old) c.deref.ensures.value c.deref_mut-2.ensures.value

pub returns : goal.returns
returns c =
    let old = c.args.self.now in
    let txs = c.args.txs.now in
    let shows : Interval → Bool = λ (i : Interval). is_some (holding i c.args.row txs) in
    record {
      at = record {
        marks = ap (λ (n : ℕ). old.ports.start + n) (same_many c) ∙ c.requires.at.marks;
        intervals = omega (arith, c.requires.at.intervals, same_many c);
        each = ap length (nexts_are c) ∙ c.mark.auto.nexts ∙ ap length c.deref_mut.ensures.value ∙ c.requires.at.each;
        passed = λ k i is. passed_later i txs (get_or (with_items old.nexts c.mark.new.nexts).items k 0) c.args.row
            (subst (λ (nexts : List ℕ). ArePassed i txs (get_or nexts k 0) c.args.row) (sym (nexts_are c))
            (c.mark.ensures.passed k i (subst (λ (is : List Interval). slice_get is k ≡ Some i) (sym c.deref.ensures.value) is)));
      };
      ports = refl;
      marks = marks_are c;
      later = λ later. ap (λ (rest : List Bool). map (λ (i : Interval). is_some (holding i later txs)) old.intervals.items ++ rest)
          (ap (drop (length old.intervals.items)) (marks_are c)
          ∙ drop_at (map shows old.intervals.items) (drop (length old.intervals.items) old.shown.items) (length old.intervals.items) (length-map old.intervals.items shows));
    }
