-- What holds of each row of Filament's primitives holds of what a name means.
use Rattle.std.proofs.Common.{◌≡◌, Bool, true, false, cond, List, [], ◌∷◌, codes, Option, Some, None, option_map, ◌⊎◌, inl, inr, refl, ap}
use Rattle.std.specs.List.{find}
use Rattle.std.specs.Option.{option_map_or}
use Rattle.std.specs.Prelude.{if◌then◌else◌}
use Rattle.std.specs.Str.{bytes_eq}
use Rattle.std.proofs.lemmas.Option.{same_Some}
use Rattle.std.proofs.lemmas.Slice.Eq.{bytes_eq-Decides}
use Rattle.hw_names.specs.Name.{Text}
use Rattle.fil_ast.specs.Primitives.{FilamentPrimitive, Timing, filament_primitives, register_timing, same_row, table_name, timing, timing_of}

-- the row of a name among these, and its timing
abbrev found : Text → List FilamentPrimitive → Option FilamentPrimitive
found name rows = find (λ (p : FilamentPrimitive). bytes_eq name p.name) rows

abbrev time : Option FilamentPrimitive → Timing
time o = option_map_or (λ (p : FilamentPrimitive). p.timing) o same_row

-- it holds of each of these rows
abbrev pub OfEach : (FilamentPrimitive → Type 0) → List FilamentPrimitive → Type 0
OfEach P [] = Unit {0}
OfEach P (p ∷ rows) = P p × OfEach P rows

-- a row of this name, with this name of the table, of which it holds
pub record IsRow (P : FilamentPrimitive → Type 0) (name table : Text) : Type 0 where
  pub row : FilamentPrimitive
  pub holds : P row
  pub named : name ≡ row.name
  pub tabled : row.table ≡ table

row_in : (P : FilamentPrimitive → Type 0) (rows : List FilamentPrimitive) → OfEach P rows → (name table : Text)
    → option_map (λ (p : FilamentPrimitive). p.table) (found name rows) ≡ Some table → IsRow P name table
row_in P [] each name table is = absurd (cc)
row_in P (p ∷ rows) each name table is = by (row_in P rows each.1 name table) (bytes_eq name p.name) refl is
  where
    by : (option_map (λ (p : FilamentPrimitive). p.table) (found name rows) ≡ Some table → IsRow P name table) → (b : Bool) → bytes_eq name p.name ≡ b
        → option_map (λ (p : FilamentPrimitive). p.table) (cond b (Some p) (found name rows)) ≡ Some table → IsRow P name table
    by rest true here same = record { row = p; holds = each.0; named = (bytes_eq-Decides name p.name).0 here; tabled = same_Some p.table table same }
    by rest false here later = rest later

-- the row of a name that the table has
pub row_of : (P : FilamentPrimitive → Type 0) → OfEach P filament_primitives → (name table : Text) → table_name name ≡ Some table → IsRow P name table
row_of P each name table told = row_in P filament_primitives each name table told

-- what holds of each timing holds of that of a name
timing_in : (P : Timing → Type 0) (rows : List FilamentPrimitive) → OfEach (λ p. P p.timing) rows → P same_row → (name : Text)
    → P (time (found name rows))
timing_in P [] each same name = same
timing_in P (p ∷ rows) each same name = by (bytes_eq name p.name) (timing_in P rows each.1 same name)
  where
    by : (b : Bool) → P (time (found name rows)) → P (time (cond b (Some p) (found name rows)))
    by true rest = each.0
    by false rest = rest

pub each_timing : (P : Timing → Type 0) → P register_timing → P (timing 3 (Some (codes "go")) 2) → P (timing 1 None 2) → P (timing 1 None 1) → P same_row → (name : Text) → P (timing_of name)
each_timing P register slow fast next same name =
    timing_in P filament_primitives
    (same, (same, (same, (same, (same, (same, (same, (same, (same, (same, (same, (same, (next, (fast, (register, (slow, tt)))))))))))))))) same name

-- the timings by four names, and one for the others
module _ (name : Text) where
  abbrev IsOther : FilamentPrimitive → Type 0
  IsOther p = (bytes_eq name p.name ≡ false) ⊎ (p.timing ≡ same_row)

  others : (rows : List FilamentPrimitive) → OfEach IsOther rows → time (found name rows) ≡ same_row
  others [] each = refl
  others (p ∷ rows) each = by (bytes_eq name p.name) refl each.0 (others rows each.1)
    where
      by : (b : Bool) → bytes_eq name p.name ≡ b → IsOther p → time (found name rows) ≡ same_row → time (cond b (Some p) (found name rows)) ≡ same_row
      by true is (inl differs) rest = absurd (cc)
      by true is (inr same) rest = same
      by false is other rest = rest

  pub timing_by_name : timing_of name ≡ (if bytes_eq name (codes "Reg") then register_timing else if bytes_eq name (codes "SeqMult") then timing 3 (Some (codes "go")) 2
      else if bytes_eq name (codes "FastMult") then timing 1 None 2 else if bytes_eq name (codes "Delay") then timing 1 None 1 else same_row)
  timing_by_name = by (bytes_eq name (codes "Reg")) refl (bytes_eq name (codes "SeqMult")) refl (bytes_eq name (codes "FastMult")) refl (bytes_eq name (codes "Delay")) refl
    where
      of : (known : Text) → bytes_eq name known ≡ true → timing_of name ≡ timing_of known
      of known is = ap timing_of ((bytes_eq-Decides name known).0 is)

      by : (a : Bool) → bytes_eq name (codes "Reg") ≡ a → (b : Bool) → bytes_eq name (codes "SeqMult") ≡ b → (c : Bool) → bytes_eq name (codes "FastMult") ≡ c
          → (d : Bool) → bytes_eq name (codes "Delay") ≡ d → timing_of name
          ≡ (if a then register_timing else if b then timing 3 (Some (codes "go")) 2 else if c then timing 1 None 2 else if d then timing 1 None 1 else same_row)
      by true a b is_b c is_c d is_d = of (codes "Reg") a
      by false a true b c is_c d is_d = of (codes "SeqMult") b
      by false a false b true c d is_d = of (codes "FastMult") c
      by false a false b false c true d = of (codes "Delay") d
      by false a false b false c false d =
          others filament_primitives
          (inr refl, (inr refl, (inr refl, (inr refl, (inr refl, (inr refl, (inr refl, (inr refl, (inr refl, (inr refl, (inr refl, (inr refl, (inl d, (inl c, (inl a, (inl b, tt))))))))))))))))
