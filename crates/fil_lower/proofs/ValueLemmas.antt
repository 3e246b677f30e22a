-- What drives a port of a component, over lists of assignments that are joined.
use Rattle.std.proofs.Common.{◌≡◌, ℕ, zero, suc, Bool, true, false, cond, List, [], ◌∷◌, ◌++◌, flat_map, filter, slice_get, All, Some, refl, sym, ap, ap₂, ◌∙◌, arith}
use Rattle.std.specs.Prelude.{◌&&◌, if◌then◌else◌}
use Rattle.std.proofs.lemmas.Bool.{false≢true}
use Rattle.std.proofs.lemmas.List.{append-nil}
use Rattle.std.proofs.lemmas.List.Elements.{All-head, All-tail, filter-append}
use Rattle.std.proofs.lemmas.Option.{none-some, same_Some}
use Rattle.net_core.specs.Guard.{guard_holds, source_value}
use Rattle.cal_ast.specs.Laws.{local_values}
use Rattle.cal_ast.specs.Tree.{PortName, Assignment}
use Rattle.cal_ast.proofs.LocalLemmas.{is_port, is_port-refl}

-- ---- lists that are joined

pub flat_none : {X Y : Type 0} (h : X → List Y) (xs : List X) → ((k : ℕ) (x : X) → slice_get xs k ≡ Some x → h x ≡ []) → flat_map h xs ≡ []
flat_none h [] none = refl
flat_none h (x ∷ xs) none = ap₂ ◌++◌ (none 0 x refl) (flat_none h xs (λ k y at. none (suc k) y at))

-- where one element alone gives anything, that is all
pub flat_only : {X Y : Type 0} (h : X → List Y) (xs : List X) (n : ℕ) (x : X) → slice_get xs n ≡ Some x → ((k : ℕ) (y : X) → slice_get xs k ≡ Some y → (k ≡ n → ⊥) → h y ≡ []) → flat_map h xs ≡ h x
flat_only h [] n x at others = absurd (none-some x at)
flat_only h (z ∷ xs) zero x at others =
    ap (λ rest. h z ++ rest) (flat_none h xs (λ k y at_k. others (suc k) y at_k (λ same. omega (arith, same)))) ∙ append-nil (h z) ∙ ap h (same_Some z x at)
flat_only h (z ∷ xs) (suc n) x at others =
    ap (λ first. first ++ flat_map h xs) (others 0 z refl (λ same. omega (arith, same)))
    ∙ flat_only h xs n x at (λ k y at_k apart. others (suc k) y at_k (λ same. apart (omega (arith, same))))

pub filter_flat : {X Y : Type 0} (test : Y → Bool) (f : X → List Y) (xs : List X) → filter test (flat_map f xs) ≡ flat_map (λ x. filter test (f x)) xs
filter_flat test f [] = refl
filter_flat test f (x ∷ xs) = filter-append test (f x) (flat_map f xs) ∙ ap (λ rest. filter test (f x) ++ rest) (filter_flat test f xs)

pub filter_none : {X : Type 0} (test : X → Bool) (xs : List X) → All (λ x. test x ≡ false) xs → filter test xs ≡ []
filter_none test [] all = refl
filter_none test (x ∷ xs) all =
    ap (λ b. cond b (x ∷ filter test xs) (filter test xs)) (All-head (λ x. test x ≡ false) x xs all) ∙ filter_none test xs (All-tail (λ x. test x ≡ false) x xs all)

-- ---- values of assignments

module _ (see : PortName → ℕ) (p : PortName) where
  -- the assignment drives another port
  abbrev pub IsElsewhere : Assignment → Type 0
  IsElsewhere a = is_port a.dst p ≡ false

  pub joined_values : (xs ys : List Assignment) → local_values see p (xs ++ ys) ≡ local_values see p xs ++ local_values see p ys
  joined_values [] ys = refl
  joined_values (a ∷ xs) ys = by (is_port a.dst p && guard_holds see a.guard) (joined_values xs ys)
    where
      by : (b : Bool) → local_values see p (xs ++ ys) ≡ local_values see p xs ++ local_values see p ys
          → (if b then source_value see a.src ∷ local_values see p (xs ++ ys) else local_values see p (xs ++ ys)) ≡ (if b then source_value see a.src ∷ local_values see p xs else local_values see p xs) ++ local_values see p ys
      by true rest = ap (λ (values : List ℕ). source_value see a.src ∷ values) rest
      by false rest = rest

  pub no_values : (sets : List Assignment) → All IsElsewhere sets → local_values see p sets ≡ []
  no_values [] all = refl
  no_values (a ∷ sets) all = by (is_port a.dst p) (All-head IsElsewhere a sets all) (no_values sets (All-tail IsElsewhere a sets all))
    where
      by : (b : Bool) → b ≡ false → local_values see p sets ≡ [] → (if b && guard_holds see a.guard then source_value see a.src ∷ local_values see p sets else local_values see p sets) ≡ []
      by true is rest = absurd (false≢true (sym is))
      by false is rest = rest

  pub flat_values : {X : Type 0} (f : X → List Assignment) (xs : List X) → local_values see p (flat_map f xs) ≡ flat_map (λ x. local_values see p (f x)) xs
  flat_values f [] = refl
  flat_values f (x ∷ xs) = joined_values (f x) (flat_map f xs) ∙ ap (λ rest. local_values see p (f x) ++ rest) (flat_values f xs)

  -- four lists, joined
  pub four_values : (ws bs cs ds : List Assignment) → local_values see p (ws ++ bs ++ cs ++ ds) ≡ local_values see p ws ++ local_values see p bs ++ local_values see p cs ++ local_values see p ds
  four_values ws bs cs ds =
      joined_values (ws ++ bs ++ cs) ds
      ∙ ap (λ first. first ++ local_values see p ds) (joined_values (ws ++ bs) cs ∙ ap (λ first. first ++ local_values see p cs) (joined_values ws bs))

  -- an assignment of the port, before others
  pub first_value : (a : Assignment) (sets : List Assignment) → a.dst ≡ p →
      local_values see p (a ∷ sets) ≡ (if guard_holds see a.guard then source_value see a.src ∷ local_values see p sets else local_values see p sets)
  first_value a sets same =
      ap (λ (b : Bool). if b && guard_holds see a.guard then source_value see a.src ∷ local_values see p sets else local_values see p sets) (ap (λ q. is_port q p) same ∙ is_port-refl p)

  pub later_values : (a : Assignment) (sets : List Assignment) → IsElsewhere a → local_values see p (a ∷ sets) ≡ local_values see p sets
  later_values a sets elsewhere =
      ap (λ (b : Bool). if b && guard_holds see a.guard then source_value see a.src ∷ local_values see p sets else local_values see p sets) elsewhere
