-- Sources and guards over the numbers of ports have the values that the lines have.
use Rattle.std.proofs.Common.{◌≡◌, ℕ, ◌+◌, ◌<◌, ◌==◌, Bool, not, ◌&&◌, ◌||◌, List, [], ◌∷◌, ◌++◌, length, map, take, get_or, All, Option, Some, None, refl, sym, ap, ap₂, ◌∙◌, subst, arith}
use Rattle.std.specs.Prelude.{slice_get}
use Rattle.std.proofs.lemmas.List.{get_or-map, length-map, map_push, take_more}
use Rattle.std.proofs.lemmas.List.Elements.{All-push, All-weaker}
use Rattle.std.proofs.lemmas.Option.{get_or_from_slice_get, slice_get_within}
use Rattle.hw_names.specs.Name.{Text}
use Rattle.hw_prims.specs.Row.{Row}
use Rattle.net_core.specs.Graph.{guard_ports, guards_ports, option_ports, source_ports}
use Rattle.net_core.specs.Guard.{all_hold, any_holds, compare_values, guard_holds, guard_option, guard_tree, guard_trees, holds, source_tree, source_value}
use Rattle.net_core.specs.declared.net.Guard.{Guard, Row_of-Guard, end_of-Guard, more_of-Guard}
use Rattle.net_core.specs.declared.net.Guard as code
use Rattle.net_core.specs.declared.net.Src.{Src}
use Rattle.net_core.specs.declared.net.Src.TheVariants.{Port, Lit}
use Rattle.cal_ast.specs.CalRun.{look}
use Rattle.cal_ast.specs.Schedule.{reads_done}
use Rattle.cal_ast.specs.Tree.{done_tree, port_tree}
use Rattle.cal_ast.specs.declared.tree.CalPort.{CalPort}
use Rattle.cal_ast.specs.declared.tree.DoneSet.{DoneSet}
use Rattle.cal_sched.specs.Watching.{AreWithin, IsSourceOver, IsWhenOver, WatchIsWithin, named, numbers_only, reads_one, top_port, value_at}
use Rattle.cal_sched.specs.declared.watch.Watch.{Watch}
use Rattle.cal_walk.proofs.PlanLemmas.{all_left, all_right}

-- ---- guards whose ports are known in two ways, with the same values

module _ {P Q R : Type 0} (f : P → Q) (h : P → R) (seen : Q → ℕ) (other : R → ℕ) where
  abbrev Alike : P → Type 0
  Alike p = seen (f p) ≡ other (h p)

  source_alike : (s : Src P) → All Alike (source_ports s) → source_value seen (source_tree f s) ≡ source_value other (source_tree h s)
  source_alike (Port p) all = all 0 p (omega arith)
  source_alike (Lit width value) all = refl

  read_alike : (s : Src P) → All Alike (source_ports (source_tree (λ (p : P). p) s)) → source_value seen (source_tree f s) ≡ source_value other (source_tree h s)
  read_alike (Port p) all = all 0 p (omega arith)
  read_alike (Lit width value) all = refl

  mutual
    guard_alike : (g : Guard P) → All Alike (guard_ports (guard_tree (λ (p : P). p) g)) → holds seen (guard_tree f g) ≡ holds other (guard_tree h g)
    guard_alike (code.Read s) all = ap (λ v. v == 1) (read_alike s.value all)
    guard_alike (code.Test op a b) all =
        let left = source_ports (source_tree (λ (p : P). p) a.value) in
        let right = source_ports (source_tree (λ (p : P). p) b.value) in
        ap₂ (compare_values op) (read_alike a.value (all_left Alike left right all)) (read_alike b.value (all_right Alike left right all))
    guard_alike (code.Not' p g) all = ap not (guard_alike g all)
    guard_alike (code.All' shape gs) all = all_alike gs all
    guard_alike (code.Any' shape gs) all = any_alike gs all

    all_alike : {m : _} (gs : Row_of-Guard P m) → All Alike (guards_ports (guard_trees (λ (p : P). p) gs)) → all_hold seen (guard_trees f gs) ≡ all_hold other (guard_trees h gs)
    all_alike end_of-Guard all = refl
    all_alike (more_of-Guard g gs) all =
        let first = guard_ports (guard_tree (λ (p : P). p) g) in
        let rest = guards_ports (guard_trees (λ (p : P). p) gs) in
        ap₂ ◌&&◌ (guard_alike g (all_left Alike first rest all)) (all_alike gs (all_right Alike first rest all))

    any_alike : {m : _} (gs : Row_of-Guard P m) → All Alike (guards_ports (guard_trees (λ (p : P). p) gs)) → any_holds seen (guard_trees f gs) ≡ any_holds other (guard_trees h gs)
    any_alike end_of-Guard all = refl
    any_alike (more_of-Guard g gs) all =
        let first = guard_ports (guard_tree (λ (p : P). p) g) in
        let rest = guards_ports (guard_trees (λ (p : P). p) gs) in
        ap₂ ◌||◌ (guard_alike g (all_left Alike first rest all)) (any_alike gs (all_right Alike first rest all))

  when_alike : (g : Option (Guard P)) → All Alike (option_ports (guard_option (λ (p : P). p) g)) → guard_holds seen (guard_option f g) ≡ guard_holds other (guard_option h g)
  when_alike None all = refl
  when_alike (Some g) all = guard_alike g all

source_as_is : {P : Type 0} (seen : P → ℕ) (s : Src P) → source_value seen s ≡ source_value seen (source_tree (λ (p : P). p) s)
source_as_is seen (Port p) = refl
source_as_is seen (Lit width value) = refl

-- ---- numbers of ports among the values of a row

module _ (row : Row) (ports : List Text) where
  pub value_named : (k : ℕ) → k < length ports → value_at (map row ports) k ≡ row (named ports k)
  value_named k within = get_or-map row ports k [] 0 within

  pub within_values : (numbers : List ℕ) → AreWithin ports numbers → AreWithin (map row ports) numbers
  within_values numbers all = All-weaker (λ k. k < length ports) (λ k. k < length (map row ports)) (λ k within. omega (arith, within, length-map ports row)) numbers all

  pub watch_within : (w : Watch) → WatchIsWithin ports w → WatchIsWithin (map row ports) w
  watch_within w is = record { guard = within_values (option_ports (guard_option numbers_only w.guard)) is.guard; src = within_values (source_ports w.src) is.src }

  named_alike : (numbers : List ℕ) → AreWithin ports numbers → All (λ k. value_at (map row ports) k ≡ row (named ports k)) numbers
  named_alike numbers all = All-weaker (λ k. k < length ports) (λ k. value_at (map row ports) k ≡ row (named ports k)) value_named numbers all

-- ---- a done line

module _ (names ports : List Text) (row : Row) where
  source_over : (src : Src CalPort) (over : Src ℕ) → IsSourceOver names ports src over
      → source_value (value_at (map row ports)) over ≡ source_value (look [] row) (source_tree (port_tree names) src)
  source_over src over is =
      source_as_is (value_at (map row ports)) over
      ∙ source_alike numbers_only (named ports) (value_at (map row ports)) row over (named_alike row ports (source_ports over) is.within)
      ∙ ap (source_value row) is.is
      ∙ sym (source_alike (port_tree names) (top_port names) (look [] row) row src (λ k d within. refl))

  when_over : (guard : Option (Guard CalPort)) (over : Option (Guard ℕ)) → IsWhenOver names ports guard over
      → guard_holds (value_at (map row ports)) (guard_option numbers_only over) ≡ guard_holds (look [] row) (guard_option (port_tree names) guard)
  when_over guard over is =
      when_alike numbers_only (named ports) (value_at (map row ports)) row over (named_alike row ports (option_ports (guard_option numbers_only over)) is.within)
      ∙ ap (guard_holds row) is.is
      ∙ sym (when_alike (port_tree names) (top_port names) (look [] row) row guard (λ k d within. refl))

  -- a watch reads 1 where its line does
  pub watch_reads : (d : DoneSet) (w : Watch) → IsWhenOver names ports d.guard w.guard → IsSourceOver names ports d.src w.src
      → reads_one (map row ports) w ≡ reads_done [] row (done_tree names d)
  watch_reads d w guard src = ap₂ (λ (b : Bool) (v : ℕ). b && (v == 1)) (when_over d.guard w.guard guard) (source_over d.src w.src src)

pub over_within : (names ports : List Text) (d : DoneSet) (w : Watch) → IsWhenOver names ports d.guard w.guard → IsSourceOver names ports d.src w.src → WatchIsWithin ports w
over_within names ports d w guard src = record { guard = guard.within; src = src.within }

-- ---- the ports of conditions

module _ (names ports : List Text) (conditions : List CalPort) (i : ℕ) (d : CalPort) (old new : List ℕ) (number : ℕ) where
  pub numbers_more : i < length conditions → new ≡ old ++ number ∷ [] → slice_get ports number ≡ Some (top_port names (get_or conditions i d))
      → map (named ports) old ≡ map (top_port names) (take i conditions) → map (named ports) new ≡ map (top_port names) (take (i + 1) conditions)
  numbers_more within put at so_far =
      let port = top_port names (get_or conditions i d) in
      ap (map (named ports)) put
      ∙ map_push (named ports) old number
      ∙ ap₂ (λ (l : List Text) (x : Text). l ++ x ∷ []) so_far (get_or_from_slice_get ports number port [] at)
      ∙ sym (ap (map (top_port names)) (take_more conditions i d within) ∙ map_push (top_port names) (take i conditions) (get_or conditions i d))

pub within_more : (ports : List Text) (name : Text) (old new : List ℕ) (number : ℕ) → new ≡ old ++ number ∷ [] → slice_get ports number ≡ Some name → AreWithin ports old → AreWithin ports new
within_more ports name old new number put at so_far =
    let P : List ℕ → Type 0 = AreWithin ports in
    subst P (sym put) (All-push (λ k. k < length ports) old number so_far (slice_get_within ports number name at))
