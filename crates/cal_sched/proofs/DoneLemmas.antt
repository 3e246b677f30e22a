-- Marks of what is seen of a row: which actors are done, one done line after another, and which conditions read 1.
use Rattle.std.proofs.Common.{◌≡◌, inl, inr, ℕ, ◌+◌, ◌<◌, ◌≤◌, ◌==◌, Bool, true, false, ◌&&◌, ◌||◌, List, [], length, map, set, get_or, take, refl, sym, ap, ◌∙◌, subst, arith}
use Rattle.std.specs.Prelude.{replicate}
use Rattle.std.proofs.lemmas.Bool.{and_right, cases_eq, eq-eqb, ne_eqb}
use Rattle.std.proofs.lemmas.List.{get_or-map, get_or-replicate, get_or-set_other, get_or-set_same, get_or_default, length-map, length-replicate, length-set, same_lists, take_all}
use Rattle.std.proofs.lemmas.List.Folds.{list_any_more}
use Rattle.cal_sched.proofs.WatchLemmas.{or_false}
use Rattle.cal_sched.specs.Walking.{TellsDone, is_one}
use Rattle.cal_sched.specs.Watching.{is_done, is_watch_of, reads_one}
use Rattle.cal_sched.specs.declared.watch.Watch.{Watch}

or_true : (b : Bool) → true ≡ (b || true)
or_true true = refl
or_true false = refl

-- no actor is done by no line
pub none_done : (values : List ℕ) (done : List Bool) (count : ℕ) → done ≡ replicate count false → TellsDone values [] done
none_done values done count clear k within =
    let inside : k < count = omega (arith, within, ap length clear, length-replicate count false) in
    ap (λ l. get_or l k false) clear ∙ get_or-replicate count k false false inside

module _ (values : List ℕ) (watches : List Watch) (i : ℕ) (w : Watch) (within : i < length watches) (is : w ≡ get_or watches i w) (done : List Bool)
    (so_far : TellsDone values (take i watches) done) where
  one_more_line : (k : ℕ) → is_done k values (take (i + 1) watches) ≡ (is_done k values (take i watches) || is_watch_of k values w)
  one_more_line k =
      list_any_more (is_watch_of k values) watches i w within ∙ ap (λ (x : Watch). is_done k values (take i watches) || is_watch_of k values x) (sym is)

  -- a line that reads 1
  pub done_more : reads_one values w ≡ true → w.actor < length done → TellsDone values (take (i + 1) watches) (set done w.actor true)
  done_more reads there k inside = elim (cases_eq k w.actor) [
    | inl same ↦
        let here : get_or (set done w.actor true) k false ≡ true = ap (λ n. get_or (set done w.actor true) n false) same ∙ get_or-set_same done w.actor true false there in
        let of_it : is_watch_of k values w ≡ true = ap (λ b. b && reads_one values w) (eq-eqb w.actor k (sym same)) ∙ reads in
        here ∙ or_true (is_done k values (take i watches)) ∙ sym (one_more_line k ∙ ap (λ b. is_done k values (take i watches) || b) of_it)
    | inr other ↦
        let kept : get_or (set done w.actor true) k false ≡ get_or done k false = get_or-set_other done w.actor k true false other in
        let was : k < length done = omega (arith, inside, length-set done w.actor true) in
        let not_it : is_watch_of k values w ≡ false = ap (λ b. b && reads_one values w) (ne_eqb w.actor k (λ e. other (sym e))) in
        kept ∙ so_far k was ∙ or_false (is_done k values (take i watches)) ∙ sym (one_more_line k ∙ ap (λ b. is_done k values (take i watches) || b) not_it)
  ]

  -- one that doesn't
  pub done_still : reads_one values w ≡ false → TellsDone values (take (i + 1) watches) done
  done_still reads k inside =
      let not_it : is_watch_of k values w ≡ false = and_right (w.actor == k) (reads_one values w) reads in
      so_far k inside ∙ or_false (is_done k values (take i watches)) ∙ sym (one_more_line k ∙ ap (λ b. is_done k values (take i watches) || b) not_it)

-- all lines
pub done_all : (values : List ℕ) (watches : List Watch) (i : ℕ) (done : List Bool) → length watches ≤ i → TellsDone values (take i watches) done → TellsDone values watches done
done_all values watches i done past so_far =
    let P : List Watch → Type 0 = λ ws. TellsDone values ws done in
    subst P (take_all i watches past) so_far

-- what conditions read
pub reads_are : (values conditions : List ℕ) (reads : List Bool) → length reads ≡ length conditions → ((k : ℕ) → k < length conditions → get_or reads k false ≡ is_one values (get_or conditions k 0))
    → reads ≡ map (is_one values) conditions
reads_are values conditions reads sized each =
    same_lists reads (map (is_one values) conditions) (sized ∙ sym (length-map conditions (is_one values))) (λ k d within.
    let inside : k < length conditions = omega (arith, within, sized) in
    get_or_default reads k d false within ∙ each k inside ∙ sym (get_or-map (is_one values) conditions k 0 d inside))
