-- Laws of the rules: the first broken one is found by judging part by part, there is at most one, and then the netlist isn't valid.
use Rattle.std.proofs.Common.{◌≡◌, ℕ, zero, suc, ◌+◌, ◌<◌, Bool, true, false, List, [], ◌∷◌, ◌++◌, length, take, drop, flat_map, slice_get, Option, Some, None, Result, Ok, Err, refl, sym, ap, ap₂, subst, ◌∙◌, append_assoc, arith}
use Rattle.std.proofs.lemmas.Bool.{and_parts}
use Rattle.std.proofs.lemmas.List.{append-nil, take-append-drop}
use Rattle.std.proofs.lemmas.Option.{slice_get_within, get_or_from_slice_get}
use Rattle.std.proofs.Math.Seq.{drop-cons}
use Rattle.std.specs.List.{list_all}
use Rattle.std.specs.Prelude.{IfErr, IsErrAnd}
use Rattle.hw_names.specs.Name.{Text}
use Rattle.net_core.specs.Judging.{first_not_kept, or_later, first_broken, Tells, IsCauseIn}
use Rattle.net_core.specs.Netlist.{Netlist, Line, lines_of}
use Rattle.net_core.specs.Rules.{PortLine, ports_at, ports_of, cell_names_at, rules_after, rules_at, IsValid, FirstBroken}
use Rattle.net_core.specs.declared.rules.NetEnd.{NetEnd}
use Rattle.net_core.specs.declared.rules.NetEnd.TheVariants.{Refused, Memory}
use Rattle.net_core.proofs.JudgingLemmas.{Fault, or_next, first_broken-append}

abbrev AreKept : List Bool → Type 0
AreKept kept = list_all (λ k. k) kept ≡ true

-- no number was told
kept_where_none : (number : ℕ) (kept : List Bool) → first_not_kept number kept ≡ None → AreKept kept
kept_where_none number [] e = refl
kept_where_none number (true ∷ kept) e = kept_where_none (number + 1) kept e
kept_where_none number (false ∷ kept) e = cc

-- the place of the number that was told
record IsFirstFalse (number : ℕ) (kept : List Bool) (rule : ℕ) : Type 0 where
  pub place : ℕ
  pub counted : place + number ≡ rule
  pub lesser : (r : ℕ) → r < place → slice_get kept r ≡ Some true
  pub broken : slice_get kept place ≡ Some false

first_false : (number : ℕ) (kept : List Bool) (rule : ℕ) → first_not_kept number kept ≡ Some rule → IsFirstFalse number kept rule
first_false number [] rule e = cc
first_false number (true ∷ kept) rule e =
    let rest = first_false (number + 1) kept rule e in
    record { place = suc rest.place; counted = (let c = rest.counted in omega arith); lesser = before rest.place rest.lesser; broken = rest.broken }
  where
    before : (place : ℕ) → ((r : ℕ) → r < place → slice_get kept r ≡ Some true) → (r : ℕ) → r < suc place → slice_get (true ∷ kept) r ≡ Some true
    before place below zero h = refl
    before place below (suc r) h = below r (omega arith)
first_false number (false ∷ kept) rule e =
    record { place = 0; counted = (let same : number ≡ rule = cc in omega arith); lesser = λ r h. absurd (omega arith); broken = refl }

none_next : (here later : Fault) → or_next here later ≡ None → later ≡ None
none_next None later e = e
none_next (Some fault) later e = cc

none_later : (rule : Option ℕ) (item : ℕ) (later : Fault) → or_later rule item later ≡ None → rule ≡ None
none_later None item later e = refl
none_later (Some rule) item later e = cc

-- lines that keep the rules keep them each
pub each_kept : (all : List PortLine) (lines : List Line) (item : ℕ) → first_broken all [] [] item lines ≡ None → (k : ℕ) (line : Line) → slice_get lines k ≡ Some line
    → AreKept (rules_after all (flat_map ports_at (take k lines)) (flat_map cell_names_at (take k lines)) line)
unfolding first_broken
each_kept all lines item none k line at =
    let ports = flat_map ports_at (take k lines) in
    let cells = flat_map cell_names_at (take k lines) in
    let rest = drop (suc k) lines in
    let within = slice_get_within lines k line at in
    let split = sym (take-append-drop k lines) ∙ ap (λ ls. take k lines ++ ls) (drop-cons lines k line within ∙ ap (λ x. x ∷ rest) (get_or_from_slice_get lines k line line at)) in
    let here = first_broken all ports cells (item + length (take k lines)) (line ∷ rest) in
    let none_here : here ≡ None =
    none_next (first_broken all [] [] item (take k lines)) here (sym (ap (first_broken all [] [] item) split ∙ first_broken-append all [] [] item (take k lines) (line ∷ rest)) ∙ none) in
    kept_where_none 1 (rules_after all ports cells line)
    (none_later (first_not_kept 1 (rules_after all ports cells line)) (item + length (take k lines)) (first_broken all (ports ++ ports_at line) (cells ++ cell_names_at line) (item + length (take k lines) + 1) rest) none_here)

-- the place of the line whose fault was told
pub record IsPlace (all ports : List PortLine) (cells : List Text) (item : ℕ) (lines : List Line) (rule told : ℕ) : Type 0 where
  pub place : ℕ
  pub counted : item + place ≡ told
  pub line : Line
  pub at : slice_get lines place ≡ Some line
  pub earlier : first_broken all ports cells item (take place lines) ≡ None
  pub broken : first_not_kept 1 (rules_after all (ports ++ flat_map ports_at (take place lines)) (cells ++ flat_map cell_names_at (take place lines)) line) ≡ Some rule

same_told : (f g : ℕ × ℕ) → Some f ≡ Some g → f ≡ g
same_told f g e = cc

pub find_place : (all ports : List PortLine) (cells : List Text) (item : ℕ) (lines : List Line) (rule told : ℕ) → first_broken all ports cells item lines ≡ Some (rule, told) → IsPlace all ports cells item lines rule told
unfolding first_broken
find_place all ports cells item [] rule told e = cc
find_place all ports cells item (x ∷ lines) rule told e =
    by (first_not_kept 1 (rules_after all ports cells x)) refl e (find_place all (ports ++ ports_at x) (cells ++ cell_names_at x) (item + 1) lines rule told)
  where
    by : (r : Option ℕ) → first_not_kept 1 (rules_after all ports cells x) ≡ r
        → or_later r item (first_broken all (ports ++ ports_at x) (cells ++ cell_names_at x) (item + 1) lines) ≡ Some (rule, told)
        → (first_broken all (ports ++ ports_at x) (cells ++ cell_names_at x) (item + 1) lines ≡ Some (rule, told) → IsPlace all (ports ++ ports_at x) (cells ++ cell_names_at x) (item + 1) lines rule told)
        → IsPlace all ports cells item (x ∷ lines) rule told
    by (Some r) here e rest =
        let told_here = same_told (r, item) (rule, told) e in
        let same : r ≡ rule = ap (λ (f : ℕ × ℕ). f.0) told_here in
        let same_item : item ≡ told = ap (λ (f : ℕ × ℕ). f.1) told_here in
        record {
          place = 0;
          counted = omega (arith, same_item);
          line = x;
          at = refl;
          earlier = refl;
          broken = ap₂ (λ ps cs. first_not_kept 1 (rules_after all ps cs x)) (append-nil ports) (append-nil cells) ∙ here ∙ ap Some same;
        }
    by None here e rest =
        let p = rest e in
        record {
          place = suc p.place;
          counted = (let c = p.counted in omega arith);
          line = p.line;
          at = p.at;
          earlier = ap (λ r. or_later r item (first_broken all (ports ++ ports_at x) (cells ++ cell_names_at x) (item + 1) (take p.place lines))) here ∙ p.earlier;
          broken =
              ap₂ (λ ps cs. first_not_kept 1 (rules_after all ps cs p.line)) (sym (append_assoc ports (ports_at x) (flat_map ports_at (take p.place lines)))) (sym (append_assoc cells (cell_names_at x) (flat_map cell_names_at (take p.place lines))))
              ∙ p.broken;
        }

-- nothing told: the netlist is valid
pub valid_where_none : (n : Netlist) → first_broken (ports_of n) [] [] 1 (lines_of n) ≡ None → IsValid n
valid_where_none n none k line at = each_kept (ports_of n) (lines_of n) 1 none k line at

slice_get-take : {X : Type 0} (xs : List X) (k j : ℕ) → j < k → slice_get (take k xs) j ≡ slice_get xs j
slice_get-take [] zero j h = refl
slice_get-take [] (suc k) j h = refl
slice_get-take (x ∷ xs) zero j h = absurd (omega arith)
slice_get-take (x ∷ xs) (suc k) zero h = refl
slice_get-take (x ∷ xs) (suc k) (suc j) h = slice_get-take xs k j (omega arith)

take-take : {X : Type 0} (xs : List X) (k j : ℕ) → j < k → take j (take k xs) ≡ take j xs
take-take [] zero zero h = refl
take-take [] zero (suc j) h = refl
take-take [] (suc k) zero h = refl
take-take [] (suc k) (suc j) h = refl
take-take (x ∷ xs) zero j h = absurd (omega arith)
take-take (x ∷ xs) (suc k) zero h = refl
take-take (x ∷ xs) (suc k) (suc j) h = ap (λ ys. x ∷ ys) (take-take xs k j (omega arith))

-- what was told is the first broken rule
pub first_broken_where_told : (n : Netlist) (rule item : ℕ) → first_broken (ports_of n) [] [] 1 (lines_of n) ≡ Some (rule, item) → FirstBroken n rule item
first_broken_where_told n rule item told =
    let p = find_place (ports_of n) [] [] 1 (lines_of n) rule item told in
    let number = first_false 1 (rules_at (ports_of n) (take p.place (lines_of n)) p.line) rule p.broken in
    record {
      line = p.line;
      place = p.place;
      counted = (let c = p.counted in omega arith);
      at = p.at;
      earlier = λ k other before at.
          let kept = each_kept (ports_of n) (take p.place (lines_of n)) 1 p.earlier k other (slice_get-take (lines_of n) p.place k before ∙ at) in
          sym (ap (λ ls. list_all (λ k. k) (rules_after (ports_of n) (flat_map ports_at ls) (flat_map cell_names_at ls) other)) (take-take (lines_of n) p.place k before)) ∙ kept;
      number = number.place;
      numbered = number.counted;
      lesser = number.lesser;
      broken = number.broken;
    }

kept_never_false : (kept : List Bool) (r : ℕ) → AreKept kept → slice_get kept r ≡ Some false → ⊥
kept_never_false [] r all broken = cc
kept_never_false (k ∷ kept) zero all broken = let parts = and_parts k (list_all (λ b. b) kept) all in let is_false : k ≡ false = cc in cc
kept_never_false (k ∷ kept) (suc r) all broken = kept_never_false kept r (and_parts k (list_all (λ b. b) kept) all).1 broken

-- a netlist with a broken rule isn't valid
pub broken_is_not_valid : (n : Netlist) (rule item : ℕ) → FirstBroken n rule item → IsValid n → ⊥
broken_is_not_valid n rule item b valid = kept_never_false (rules_at (ports_of n) (take b.place (lines_of n)) b.line) b.number (valid b.place b.line b.at) b.broken

same_some : (a b : Line) → Some a ≡ Some b → a ≡ b
same_some a b e = cc

true_or_false : Some true ≡ Some false → ⊥
true_or_false e = cc

-- there is at most one first broken rule
pub first_broken_is_unique : (n : Netlist) (rule item rule' item' : ℕ) → FirstBroken n rule item → FirstBroken n rule' item' → (rule ≡ rule') × (item ≡ item')
first_broken_is_unique n rule item rule' item' a b =
    let a_first : b.place < a.place → ⊥ = λ h. kept_never_false (rules_at (ports_of n) (take b.place (lines_of n)) b.line) b.number (a.earlier b.place b.line h b.at) b.broken in
    let b_first : a.place < b.place → ⊥ = λ h. kept_never_false (rules_at (ports_of n) (take a.place (lines_of n)) a.line) a.number (b.earlier a.place a.line h a.at) a.broken in
    let same_place : a.place ≡ b.place = omega arith in
    let same_line : a.line ≡ b.line = same_some a.line b.line (sym a.at ∙ ap (slice_get (lines_of n)) same_place ∙ b.at) in
    let same = ap₂ (λ k line. rules_at (ports_of n) (take k (lines_of n)) line) same_place same_line in
    let a_least : b.number < a.number → ⊥ = λ h. true_or_false (sym (a.lesser b.number h) ∙ ap (λ kept. slice_get kept b.number) same ∙ b.broken) in
    let b_least : a.number < b.number → ⊥ = λ h. true_or_false (sym (b.lesser a.number h) ∙ ap (λ kept. slice_get kept a.number) (sym same) ∙ a.broken) in
    let same_number : a.number ≡ b.number = omega arith in
    (omega (arith, a.numbered, b.numbered, same_number), omega (arith, a.counted, b.counted, same_place))

-- the cause of a refusal that is passed on
pub refused_from : {T : Type 0} (U : Type 0) (answer : Result T NetEnd) (e : NetEnd) (n : Netlist) → IsErrAnd answer (λ x. x ≡ e) → Tells {T = U} (Err e) (first_broken (ports_of n) [] [] 1 (lines_of n)) → IfErr answer (IsCauseIn n)
refused_from U (Ok x) e n passed tells = absurd passed
refused_from U (Err x) e n passed tells = let P : NetEnd → Type 0 = IsCauseIn n in subst P (sym passed) (cause e tells)
  where
    cause : (y : NetEnd) → Tells {T = U} (Err y) (first_broken (ports_of n) [] [] 1 (lines_of n)) → IsCauseIn n y
    cause (Refused rule item) t = first_broken_where_told n rule item t
    cause Memory t = tt
