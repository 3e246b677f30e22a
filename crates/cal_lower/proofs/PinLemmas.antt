-- Pins with an implied one have it.
use Rattle.std.proofs.Common.{◌≡◌, List, [], ◌∷◌, ◌++◌, Bool, true, false, ◌||◌, refl, sym, ap, subst, ◌∙◌}
use Rattle.std.specs.Prelude.{Contains, bytes_eq, if◌then◌else◌}
use Rattle.std.proofs.lemmas.List.Elements.{Contains-append_right}
use Rattle.std.proofs.lemmas.Slice.Eq.{bytes_eq-Decides}
use Rattle.hw_names.specs.Name.{Text}
use Rattle.hw_prims.specs.Table.{Pin, pin, pin_names}
use Rattle.cal_ast.proofs.ListLemmas.{Contains-here, Contains-there}
use Rattle.cal_ast.specs.Ports.{has_pin, with_pin}

abbrev HasNamed : Text → List Pin → Type 0
HasNamed name pins = Contains (pin_names pins) name

among : (name : Text) (pins : List Pin) → has_pin pins name ≡ true → HasNamed name pins
among name [] e = absurd (cc)
among name (p ∷ pins) e = by (bytes_eq p.name name) refl e (among name pins)
  where
    by : (b : Bool) → bytes_eq p.name name ≡ b → has_pin (p ∷ pins) name ≡ true → (has_pin pins name ≡ true → HasNamed name pins) → HasNamed name (p ∷ pins)
    by true same e later =
        let H : Text → Type 0 = λ x. Contains (x ∷ pin_names pins) name in
        subst H (sym ((bytes_eq-Decides p.name name).0 same)) (Contains-here name (pin_names pins))
    by false other e later =
        let rest : has_pin pins name ≡ true = sym (ap (λ b. b || has_pin pins name) other) ∙ e in
        Contains-there p.name (pin_names pins) name (later rest)

names_append : (pins : List Pin) (p : Pin) → pin_names (pins ++ p ∷ []) ≡ pin_names pins ++ p.name ∷ []
names_append [] p = refl
names_append (q ∷ pins) p = ap (λ names. q.name ∷ names) (names_append pins p)

pub with_pin_has : (name : Text) (pins : List Pin) → Contains (pin_names (with_pin name pins)) name
with_pin_has name pins = by (has_pin pins name) refl
  where
    by : (b : Bool) → has_pin pins name ≡ b → HasNamed name (if b then pins else pins ++ pin name 1 ∷ [])
    by true e = among name pins e
    by false e =
        let H : List Text → Type 0 = λ names. Contains names name in
        subst H (sym (names_append pins (pin name 1))) (Contains-append_right (pin_names pins) (name ∷ []) name (Contains-here name []))
