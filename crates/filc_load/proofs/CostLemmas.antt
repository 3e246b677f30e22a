-- What a Calyx design weighs is one number, and so is how many words its memories have.
use Rattle.std.proofs.Common.{◌≡◌, ℕ, ◌+◌, List, None, Some, refl, sym, ap, ap₂, subst, ◌∙◌, arith, inl, inr, ⊎_elim}
use Rattle.std.specs.Prelude.{Contains, slice_get, option_map}
use Rattle.std.proofs.lemmas.Bool.{cases_lt}
use Rattle.std.proofs.lemmas.Option.{same_Some, slice_get-map}
use Rattle.hw_names.proofs.NameLemmas.{Contains-slice_get}
use Rattle.net_core.specs.Weight.{saturated}
use Rattle.cal_ast.specs.Naming.{component_names}
use Rattle.cal_ast.specs.Ports.{part_of}
use Rattle.cal_ast.specs.Top.{IsTop}
use Rattle.cal_ast.specs.Tree.{CellDef, Component, Design}
use Rattle.cal_check.specs.Weight.{ComesTo, WithCells, CellsComeTo, NoCells, NoPart, APart, IsTold}

-- ---- a design has one top component

-- a component's name is among those of the design
named_in : (design : Design) (n : ℕ) (c : Component) → slice_get design n ≡ Some c → Contains (component_names design) c.name
named_in design n c at =
    Contains-slice_get (component_names design) n c.name (slice_get-map (λ (d : Component). d.name) design n ∙ ap (option_map (λ (d : Component). d.name)) at)

-- two numbers of the top component are one
pub one_number : (design : Design) (m n : ℕ) → IsTop design m → IsTop design n → m ≡ n
one_number design m n (inl (c, at, main, first)) (inl (d, at', main', first')) =
    ⊎_elim (λ early. absurd (first' m c early at main))
    (λ late. ⊎_elim (λ before. absurd (first n d before at' main')) (λ same. omega (arith, late, same)) (cases_lt n m)) (cases_lt m n)
one_number design m n (inl (c, at, main, first)) (inr (none, last)) = absurd (none (subst (Contains (component_names design)) main (named_in design m c at)))
one_number design m n (inr (none, last)) (inl (c, at, main, first)) = absurd (none (subst (Contains (component_names design)) main (named_in design n c at)))
one_number design m n (inr (none, last)) (inr (none', last')) = omega (arith, last, last')

-- ---- what a component comes to is one number

no_part : (design : Design) (cell : CellDef) (c : Component) → part_of design cell ≡ None → part_of design cell ≡ Some c → ⊥
no_part design cell c none is = let clash : None ≡ Some c = sym none ∙ is in cc clash

mutual
  comes_once : (design : Design) (own : Component → ℕ) (c : Component) (a b : ℕ) → ComesTo design own c a → ComesTo design own c b → a ≡ b
  comes_once design own c a b (WithCells d parts cells) (WithCells e parts' cells') = ap (λ (k : ℕ). own c + k) (cells_once design own c.cells parts parts' cells cells')

  cells_once : (design : Design) (own : Component → ℕ) (cells : List CellDef) (a b : ℕ) → CellsComeTo design own cells a → CellsComeTo design own cells b → a ≡ b
  cells_once design own cells a b NoCells NoCells = refl
  cells_once design own cells a b (NoPart cell rest parts none come) (NoPart cell' rest' parts' none' come') = cells_once design own rest parts parts' come come'
  cells_once design own cells a b (NoPart cell rest parts none come) (APart cell' rest' c part parts' is whole come') = absurd (no_part design cell c none is)
  cells_once design own cells a b (APart cell rest c part parts is whole come) (NoPart cell' rest' parts' none come') = absurd (no_part design cell c none is)
  cells_once design own cells a b (APart cell rest c part parts is whole come) (APart cell' rest' d part' parts' is' whole' come') =
      let same : d ≡ c = same_Some d c (sym is' ∙ is) in
      ap₂ ◌+◌ (comes_once design own c part part' whole (subst (λ (x : Component). ComesTo design own x part') same whole')) (cells_once design own rest parts parts' come come')

-- and so is what the top component comes to
pub told_once : (design : Design) (own : Component → ℕ) (told told' : ℕ) → IsTold design own told → IsTold design own told' → told ≡ told'
told_once design own told told' p q =
    let number : q.n ≡ p.n = one_number design q.n p.n q.top p.top in
    let same : q.c ≡ p.c = same_Some q.c p.c (sym q.at ∙ ap (slice_get design) number ∙ p.at) in
    let whole : p.whole ≡ q.whole = comes_once design own p.c p.whole q.whole p.comes (subst (λ (c : Component). ComesTo design own c q.whole) same q.comes) in
    p.is ∙ ap saturated whole ∙ sym q.is
