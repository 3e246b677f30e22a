-- A full name cut at its dots: plain names that were joined come back.
use Rattle.std.proofs.Common.{◌≡◌, ◌≢◌, ℕ, Bool, true, false, ◌==◌, [], ◌∷◌, ◌++◌, Option, Some, None, refl, sym, ap, ap₂, ◌∙◌}
use Rattle.std.proofs.lemmas.Bool.Decides.{Decides-eqb}
use Rattle.std.proofs.lemmas.List.Elements.{All-head, All-tail}
use Rattle.std.proofs.lemmas.Option.{same_Some}
use Rattle.hw_names.specs.Name.{Text, Path, dot, dotted, full_name, HasNoDot, IsPlain, IsPlainPath}

-- the path and the last name
pub record Parts : Type 0 where
  pub path : Path
  pub last : Text

-- a byte before the first dot
abbrev with_byte : ℕ → Path → Text → Parts
with_byte b [] last = record { path = []; last = b ∷ last }
with_byte b (s ∷ path) last = record { path = (b ∷ s) ∷ path; last = last }

abbrev cut_by : Bool → ℕ → Parts → Parts
cut_by true b rest = record { path = [] ∷ rest.path; last = rest.last }
cut_by false b rest = with_byte b rest.path rest.last

abbrev pub parts : Text → Parts
parts [] = record { path = []; last = [] }
parts (b ∷ bs) = cut_by (b == dot) b (parts bs)

not_dot : (b : ℕ) → b ≢ dot → (b == dot) ≡ false
not_dot b other = by (b == dot) refl
  where
    by : (r : Bool) → (b == dot) ≡ r → (b == dot) ≡ false
    by true e = absurd (other ((Decides-eqb b dot).0 e))
    by false e = e

abbrev IsNoDot : ℕ → Type 0
IsNoDot byte = byte ≢ dot

parts_alone : (x : Text) → HasNoDot x → parts x ≡ record { path = []; last = x }
parts_alone [] none = refl
parts_alone (b ∷ bs) none =
    ap₂ (λ (r : Bool) (rest : Parts). cut_by r b rest) (not_dot b (All-head IsNoDot b bs none)) (parts_alone bs (All-tail IsNoDot b bs none))

parts_dotted : (s rest : Text) → HasNoDot s → parts (dotted s rest) ≡ record { path = s ∷ (parts rest).path; last = (parts rest).last }
parts_dotted [] rest none = refl
parts_dotted (b ∷ bs) rest none =
    ap₂ (λ (r : Bool) (p : Parts). cut_by r b p) (not_dot b (All-head IsNoDot b bs none)) (parts_dotted bs rest (All-tail IsNoDot b bs none))

-- the names that were joined
pub parts_of : (path : Path) (last : Text) → IsPlainPath path → IsPlain last → parts (full_name path last) ≡ record { path = path; last = last }
parts_of [] last plain is = parts_alone last is.1
parts_of (s ∷ path) last plain is =
    parts_dotted s (full_name path last) (All-head IsPlain s path plain).1
    ∙ ap (λ (p : Parts). record { path = s ∷ p.path; last = p.last }) (parts_of path last (All-tail IsPlain s path plain) is)

byte_first : (b : ℕ) (path : Path) (last : Text) → full_name (with_byte b path last).path (with_byte b path last).last ≡ b ∷ full_name path last
byte_first b [] last = refl
byte_first b (s ∷ path) last = refl

-- joined again they are the name
pub joined : (name : Text) → full_name (parts name).path (parts name).last ≡ name
joined [] = refl
joined (b ∷ bs) = by (joined bs) (b == dot) refl
  where
    by : full_name (parts bs).path (parts bs).last ≡ bs → (r : Bool) → (b == dot) ≡ r → full_name (cut_by r b (parts bs)).path (cut_by r b (parts bs)).last ≡ b ∷ bs
    by later true e = ap₂ ◌∷◌ (sym ((Decides-eqb b dot).0 e)) later
    by later false e = byte_first b (parts bs).path (parts bs).last ∙ ap (λ (rest : Text). b ∷ rest) later

-- ---- the end of a path

pub record End : Type 0 where
  pub above : Path
  pub cell : Text

abbrev below : Text → Option End → End
below s None = record { above = []; cell = s }
below s (Some e) = record { above = s ∷ e.above; cell = e.cell }

-- the path without its last name, and that name, where there is one
abbrev pub end_of : Path → Option End
end_of [] = None
end_of (s ∷ path) = Some (below s (end_of path))

pub end_of-append : (above : Path) (cell : Text) → end_of (above ++ cell ∷ []) ≡ Some (record { above = above; cell = cell })
end_of-append [] cell = refl
end_of-append (s ∷ above) cell = ap (λ (o : Option End). Some (below s o)) (end_of-append above cell)

none_above : (path : Path) → end_of path ≡ None → path ≡ []
none_above [] e = refl
none_above (s ∷ path) e = cc

pub end_is : (path : Path) (e : End) → end_of path ≡ Some e → path ≡ e.above ++ e.cell ∷ []
end_is [] e is = cc
end_is (s ∷ path) e is = by (end_of path) refl (λ inner last. end_is path inner last)
  where
    by : (o : Option End) → end_of path ≡ o → ((inner : End) → end_of path ≡ Some inner → path ≡ inner.above ++ inner.cell ∷ []) → s ∷ path ≡ e.above ++ e.cell ∷ []
    by None last later =
        let same = same_Some (below s None) e (ap (λ (o : Option End). Some (below s o)) (sym last) ∙ is) in
        ap (λ (p : Path). s ∷ p) (none_above path last) ∙ ap (λ (x : End). x.above ++ x.cell ∷ []) same
    by (Some inner) last later =
        let same = same_Some (below s (Some inner)) e (ap (λ (o : Option End). Some (below s o)) (sym last) ∙ is) in
        ap (λ (p : Path). s ∷ p) (later inner last) ∙ ap (λ (x : End). x.above ++ x.cell ∷ []) same
