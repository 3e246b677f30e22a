-- A port of a component that reaches itself lies on a loop.
use Rattle.std.proofs.Common.{◌≡◌, ◌≢◌, ◌⊎◌, inl, inr, Bool, true, false, List, [], ◌∷◌, bytes_eq, All, AllPairs, Option, Some, None, refl, sym, ap, subst, ◌∙◌, arith}
use Rattle.std.proofs.lemmas.List.Elements.{All-nil, All-cons, All-head, All-tail}
use Rattle.std.proofs.lemmas.List.Kept.{AllPairs-cons}
use Rattle.std.proofs.lemmas.Slice.Eq.{bytes_eq-Decides}
use Rattle.hw_names.specs.Name.{Text}
use Rattle.cal_ast.specs.Tree.{PortName, Component, Design}
use Rattle.cal_ast.specs.Wires.{ReadsPort, Reaches, Straight, Over, ReadsAlong, HasNoLoop}

-- whether two names are one
abbrev Same : {X : Type 0} → X → X → Type 0
Same x y = (x ≡ y) ⊎ (x ≢ y)

same_text : (x y : Text) → Same x y
same_text x y = by (bytes_eq x y) refl
  where
    by : (b : Bool) → bytes_eq x y ≡ b → Same x y
    by true is = inl ((bytes_eq-Decides x y).0 is)
    by false is = inr (λ same. let yes = (bytes_eq-Decides x y).1 same in cc)

same_cell : (x y : Option Text) → Same x y
same_cell None None = inl refl
same_cell None (Some y) = inr (λ e. cc)
same_cell (Some x) None = inr (λ e. cc)
same_cell (Some x) (Some y) =
    elim (same_text x y) [ inl same ↦ inl (ap Some same) | inr apart ↦ inr (λ e. let same : x ≡ y = cc in apart same) ]

same_port : (p q : PortName) → Same p q
same_port p q =
    elim (same_cell p.cell q.cell) [
      | inr apart ↦ inr (λ e. apart (ap (λ (r : PortName). r.cell) e))
      | inl cells ↦ elim (same_text p.pin q.pin) [
        | inr apart ↦ inr (λ e. apart (ap (λ (r : PortName). r.pin) e))
        | inl pins ↦ inl (ap (λ c. record { cell = c; pin = p.pin }) cells ∙ ap (λ x. record { cell = q.cell; pin = x }) pins)
      ]
    ]

abbrev IsOther : PortName → PortName → Type 0
IsOther p q = p ≢ q

-- ports that differ, each from all later ones
abbrev Differ : List PortName → Type 0
Differ [] = Unit {0}
Differ (p ∷ ports) = All (IsOther p) ports × Differ ports

AllPairs-from_Differ : (ports : List PortName) → Differ ports → AllPairs IsOther ports
AllPairs-from_Differ [] d = λ i j x less within. absurd (omega (arith, less, within))
AllPairs-from_Differ (p ∷ ports) d = AllPairs-cons IsOther p ports d.0 (AllPairs-from_Differ ports d.1)

module _ (design : Design) (c : Component) where
  -- distinct ports from the first to another, each of which reads the next
  record Trail (first back : PortName) : Type 0 where
    others : List PortName
    along : ReadsAlong design c (first ∷ others) back
    differ : Differ (first ∷ others)

  -- the ports of a trail up to one that stands in it, after one that reads the first
  record Front (from first : PortName) (others : List PortName) (p : PortName) : Type 0 where
    ports : List PortName
    along : ReadsAlong design c (from ∷ ports) p
    apart : All (IsOther p) ports
    differ : Differ ports
    fewer : (q : PortName) → All (IsOther q) (first ∷ others) → All (IsOther q) ports

  front_here : (p from first : PortName) (others : List PortName) → p ≡ first → ReadsPort design c from first → Front from first others p
  front_here p from first others same reads =
      record { ports = []; along = subst (ReadsPort design c from) (sym same) reads; apart = All-nil (IsOther p); differ = tt; fewer = λ q others. All-nil (IsOther q) }

  front_later : (p from first next : PortName) (rest : List PortName) → p ≢ first → ReadsPort design c from first → All (IsOther first) (next ∷ rest) → Front first next rest p → Front from first (next ∷ rest) p
  front_later p from first next rest apart reads others f = record {
    ports = first ∷ f.ports;
    along = (reads, f.along);
    apart = All-cons (IsOther p) first f.ports apart f.apart;
    differ = (f.fewer first others, f.differ);
    fewer = λ q all. All-cons (IsOther q) first f.ports (All-head (IsOther q) first (next ∷ rest) all) (f.fewer q (All-tail (IsOther q) first (next ∷ rest) all));
  }

  -- a port stands in a trail, or differs from all of it
  front : (p from first : PortName) (others : List PortName) (back : PortName) → ReadsPort design c from first → ReadsAlong design c (first ∷ others) back → Differ (first ∷ others) → Front from first others p ⊎ All (IsOther p) (first ∷ others)
  front p from first [] back reads along differ =
      elim (same_port p first) [
        | inl same ↦ inl (front_here p from first [] same reads)
        | inr apart ↦ inr (All-cons (IsOther p) first [] apart (All-nil (IsOther p)))
      ]
  front p from first (next ∷ rest) back reads along differ =
      elim (same_port p first) [
        | inl same ↦ inl (front_here p from first (next ∷ rest) same reads)
        | inr apart ↦ elim (front p first next rest back along.0 along.1 differ.1) [
          | inl f ↦ inl (front_later p from first next rest apart reads differ.0 f)
          | inr none ↦ inr (All-cons (IsOther p) first (next ∷ rest) apart none)
        ]
      ]

  -- a port reaches another by distinct ports, where there is no loop
  step_before : (first next back : PortName) → HasNoLoop design c → ReadsPort design c first next → Trail next back → Trail first back
  step_before first next back clear reads t =
      elim (front first first next t.others back reads t.along t.differ) [
        | inl f ↦ absurd (clear first f.ports (record { along = f.along; distinct = AllPairs-from_Differ (first ∷ f.ports) (f.apart, f.differ) }))
        | inr none ↦ record { others = next ∷ t.others; along = (reads, t.along); differ = (none, t.differ) }
      ]

trail : (design : Design) (c : Component) (first back : PortName) → HasNoLoop design c → Reaches design c first back → Trail design c first back
trail design c first back clear (Straight d port other reads) = record { others = []; along = reads; differ = (All-nil (IsOther port), tt) }
trail design c first back clear (Over d port next other reads rest) = step_before design d port next other clear reads (trail design d next other clear rest)

pub reaches_no_itself : (design : Design) (c : Component) (port : PortName) → HasNoLoop design c → Reaches design c port port → ⊥
reaches_no_itself design c port clear reaches =
    let t = trail design c port port clear reaches in
    clear port t.others (record { along = t.along; distinct = AllPairs-from_Differ (port ∷ t.others) t.differ })
