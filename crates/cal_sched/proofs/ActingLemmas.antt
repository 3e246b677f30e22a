-- Which actors act in a row, by what control wants there.
use Rattle.std.proofs.Common.{◌≡◌, ℕ, ◌<◌, Bool, false, not, ◌&&◌, ◌||◌, List, length, get_or, refl, ap, ap₂, ◌∙◌, arith}
use Rattle.std.specs.Prelude.{replicate}
use Rattle.std.proofs.lemmas.List.{get_or-replicate, length-replicate}
use Rattle.cal_ast.specs.Actors.{Actor}
use Rattle.cal_ast.specs.Plan.{Plan}
use Rattle.cal_walk.specs.Marking.{AddsMarks, AddsWanted}
use Rattle.cal_walk.specs.Stages.{Progress, Waits, GoesOn, Ends, acts_now, enabled_now, tested_now}
use Rattle.cal_walk.specs.declared.marks.Marks.{Marks}
use Rattle.cal_sched.specs.Walking.{ClearsMarks, acts_by, runs_now}

-- an actor acts where control runs, in the row of a test, or enabled and not done
acts_where : (plan : Plan) (p : Progress) (actor : Actor) (go done : Bool)
    → (runs_now p go && (tested_now plan p actor || (enabled_now plan p actor && not done))) ≡ acts_now plan p actor go done
acts_where plan Waits actor go done = refl
acts_where plan (GoesOn p) actor go done = refl
acts_where plan Ends actor go done = refl

-- marks that were cleared and then set are of what is wanted
marked : (f : ℕ → Actor) (wanted : Actor → Bool) (count k : ℕ) (cleared marks : List Bool) → cleared ≡ replicate count false → k < count → AddsMarks f wanted cleared marks
    → get_or marks k false ≡ wanted (f k)
marked f wanted count k cleared marks clear within adds =
    let sized : length cleared ≡ count = ap length clear ∙ length-replicate count false in
    let none : get_or cleared k false ≡ false = ap (λ l. get_or l k false) clear ∙ get_or-replicate count k false false within in
    adds k (omega (arith, within, sized)) ∙ ap (λ b. b || wanted (f k)) none

module _ (f : ℕ → Actor) (plan : Plan) (p : Progress) (old cleared marks : Marks) (clear : ClearsMarks old cleared)
    (wanted : AddsWanted f (enabled_now plan p) (tested_now plan p) cleared marks) where
  pub acts_as_marked : (k : ℕ) (actor : Actor) (go runs done : Bool) (dones : List Bool) → k < length old.enabled.items → k < length old.tested.items → f k ≡ actor → runs ≡ runs_now p go
      → get_or dones k false ≡ done → acts_by marks dones runs k ≡ acts_now plan p actor go done
  acts_as_marked k actor go runs done dones enabled_within tested_within is running is_done =
      let tested : get_or marks.tested.items k false ≡ tested_now plan p actor =
      marked f (tested_now plan p) (length old.tested.items) k cleared.tested.items marks.tested.items clear.tested tested_within wanted.tested_are ∙ ap (tested_now plan p) is in
      let enabled : get_or marks.enabled.items k false ≡ enabled_now plan p actor =
      marked f (enabled_now plan p) (length old.enabled.items) k cleared.enabled.items marks.enabled.items clear.enabled enabled_within wanted.enabled_are ∙ ap (enabled_now plan p) is in
      let either : (get_or marks.tested.items k false || (get_or marks.enabled.items k false && not (get_or dones k false))) ≡ (tested_now plan p actor || (enabled_now plan p actor && not done)) =
      ap₂ ◌||◌ tested (ap₂ (λ (a b : Bool). a && not b) enabled is_done) in
      ap₂ ◌&&◌ running either ∙ acts_where plan p actor go done
