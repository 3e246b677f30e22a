-- Numbers in the parts of a plan, and of what is left of one, and what code reads by them.
use Rattle.std.proofs.Common.{◌≡◌, ℕ, ◌<◌, List, length, get_or, All, Option, Some, IfSome, Vec, Global, Bor, sym, subst, arith}
use Rattle.std.specs.Global.{Box}
use Rattle.std.specs.Prelude.{slice_get}
use Rattle.std.proofs.lemmas.List.Elements.{All-same}
use Rattle.std.proofs.lemmas.Option.{slice_get_read}
use Rattle.cal_walk.specs.Trees.{IsWithin, LeftIsWithin}
use Rattle.cal_walk.specs.declared.plan.Plan.{Plan}
use Rattle.cal_walk.specs.declared.plan.Plan.TheVariants as variants
use Rattle.cal_walk.specs.declared.left.Left.{Left}
use Rattle.cal_walk.specs.declared.left.Left.TheVariants as lefts

-- what an index of a vector reads
pub read_at : {X : Type 0} (v : Vec X Global) (i : ℕ) (x : X) → i < length v.items → x ≡ get_or v.items i x → slice_get v.items i ≡ Some x
read_at v i x within is = slice_get_read v.items v.len i x v.ok.0 (omega (arith, within, v.ok.0)) is

module _ (actors conditions : ℕ) where
  pub enables_within : (p : Plan) (actor : ℕ) → p ≡ variants.Enables actor → IsWithin actors conditions p → actor < actors
  enables_within p actor is within = let W : Plan → Type 0 = IsWithin actors conditions in subst W is within

  pub chooses_within : (p : Plan) (condition : ℕ) (by : Option ℕ) (on off : Box Plan) → p ≡ variants.Chooses condition by on off → IsWithin actors conditions p
      → (condition < conditions) × IfSome by (λ actor. actor < actors) × IsWithin actors conditions on.value × IsWithin actors conditions off.value
  chooses_within p condition by on off is within = let W : Plan → Type 0 = IsWithin actors conditions in subst W is within

  pub repeats_within : (p : Plan) (condition : ℕ) (by : Option ℕ) (body : Box Plan) → p ≡ variants.Repeats condition by body → IsWithin actors conditions p
      → (condition < conditions) × IfSome by (λ actor. actor < actors) × IsWithin actors conditions body.value
  repeats_within p condition by body is within = let W : Plan → Type 0 = IsWithin actors conditions in subst W is within

  pub whole_within : (l : Left) (p : Bor Plan) → l ≡ lefts.Whole p → LeftIsWithin actors conditions l → IsWithin actors conditions p.now
  whole_within l p is within = let W : Left → Type 0 = LeftIsWithin actors conditions in subst W is within

  pub in_turn_within : (l : Left) (first : Box Left) (others : Bor (List Plan)) → l ≡ lefts.InTurn first others → LeftIsWithin actors conditions l
      → LeftIsWithin actors conditions first.value × All (IsWithin actors conditions) others.now
  in_turn_within l first others is within = let W : Left → Type 0 = LeftIsWithin actors conditions in subst W is within

  pub again_within : (l : Left) (turn : Box Left) (repeats : Bor Plan) → l ≡ lefts.Again turn repeats → LeftIsWithin actors conditions l
      → LeftIsWithin actors conditions turn.value × IsWithin actors conditions repeats.now
  again_within l turn repeats is within = let W : Left → Type 0 = LeftIsWithin actors conditions in subst W is within

-- an element that a loop has of a vector
pub all_at : {X : Type 0} (P : X → Type 0) (xs items : List X) (i : ℕ) (x : X) → items ≡ xs → All P xs → i < length items → x ≡ get_or items i x → P x
all_at P xs items i x same all within is = subst P (sym is) (All-same P items xs same all i x within)
