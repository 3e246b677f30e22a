-- A simplified netlist keeps N1 to N5 where the old one does.
use Rattle.std.proofs.Common.{◌≡◌, ℕ, zero, suc, ◌<◌, ◌⊎◌, inl, inr, Bool, true, ◌&&◌, ◌==◌, List, [], ◌∷◌, ◌++◌, length, map, take, slice_get, Some, is_some, refl, sym, ap, ap₂, subst, ◌∙◌, append-nil, arith}
use Rattle.std.specs.List.{flat_map, list_all}
use Rattle.std.proofs.lemmas.Bool.{and_from, and_parts}
use Rattle.std.proofs.lemmas.Bool.Decides.{Decides-eqb}
use Rattle.std.proofs.lemmas.List.{take-append-le}
use Rattle.std.proofs.lemmas.List.Concat.{flat_map-append}
use Rattle.std.proofs.lemmas.Option.{same_Some}
use Rattle.hw_names.specs.Name.{Text}
use Rattle.hw_prims.specs.Table.{Pin}
use Rattle.net_core.proofs.WritableLemmas.{SetKeeps, set_keeps}
use Rattle.net_core.specs.Netlist.{CellLine, Netlist, Line, InLine, OutLine, WireLine, CellOf, SetOf, SetLine, lines_of}
use Rattle.net_core.specs.Rules.{IsValid, LineKeepsRules, PortLine, each_in_guard, each_source, is_writable, literal_fits, option_widths_agree, port_named, port_width, ports_at, ports_of, rules_at, source_exists, source_is_readable, source_width}
use Rattle.net_core.specs.declared.net.Src.{Src}
use Rattle.net_guard.proofs.LeafLemmas.{sources_within, widths_within}
use Rattle.net_guard.specs.Simplified.{AreSimplifiedSets, NoSets, Kept, Left, IsSimplified, IsSimplifiedSet}

abbrev all_kept : List Bool → Bool
all_kept rules = list_all (λ (kept : Bool). kept) rules

abbrev is_some_dst : List PortLine → Text → Bool
is_some_dst ports name = is_some (port_named ports name)

abbrev writes : List PortLine → Text → Bool
writes ports name = is_writable (port_named ports name)

-- ---- the lines

abbrev first_lines : Netlist → List Line
first_lines n = map InLine n.ins ++ map OutLine n.outs ++ map WireLine n.wires ++ map CellOf n.cells

abbrev lines_with : List Pin → List Pin → List Pin → List CellLine → List Line
lines_with ins outs wires cells = map InLine ins ++ map OutLine outs ++ map WireLine wires ++ map CellOf cells

same_first : (old new : Netlist) → IsSimplified old new → first_lines new ≡ first_lines old
same_first old new s =
    ap₂ (λ (ins outs : List Pin). lines_with ins outs new.wires new.cells) s.ins s.outs
    ∙ ap₂ (λ (wires : List Pin) (cells : List CellLine). lines_with old.ins old.outs wires cells) s.wires s.cells

no_ports : (sets : List SetLine) → flat_map ports_at (map SetOf sets) ≡ []
no_ports [] = refl
no_ports (a ∷ sets) = no_ports sets

ports_of-first : (n : Netlist) → ports_of n ≡ flat_map ports_at (first_lines n)
ports_of-first n =
    flat_map-append ports_at (first_lines n) (map SetOf n.sets) ∙ ap (λ (ps : List PortLine). flat_map ports_at (first_lines n) ++ ps) (no_ports n.sets) ∙ append-nil (flat_map ports_at (first_lines n))

pub same_ports : (old new : Netlist) → IsSimplified old new → ports_of new ≡ ports_of old
same_ports old new s = ports_of-first new ∙ ap (flat_map ports_at) (same_first old new s) ∙ sym (ports_of-first old)

left_or_right : {X : Type 0} (xs ys : List X) (k : ℕ) (x : X) → slice_get (xs ++ ys) k ≡ Some x → ((k < length xs) × (slice_get xs k ≡ Some x)) ⊎ ((j : ℕ) × (slice_get ys j ≡ Some x))
left_or_right [] ys k x at = inr (k, at)
left_or_right (y ∷ xs) ys zero x at = inl (omega arith, at)
left_or_right (y ∷ xs) ys (suc k) x at = elim (left_or_right xs ys k x at) [
  | inl (less, here) ↦ inl (omega (arith, less), here)
  | inr found ↦ inr found
]

on_left : {X : Type 0} (xs ys : List X) (k : ℕ) (x : X) → slice_get xs k ≡ Some x → slice_get (xs ++ ys) k ≡ Some x
on_left [] ys k x at = absurd (cc)
on_left (y ∷ xs) ys zero x at = at
on_left (y ∷ xs) ys (suc k) x at = on_left xs ys k x at

-- a line before the assignments
first_kept : (old new : Netlist) → IsSimplified old new → (k : ℕ) (line : Line) → k < length (first_lines new) → slice_get (first_lines new) k ≡ Some line → LineKeepsRules old k line → LineKeepsRules new k line
first_kept old new s k line less at kept =
    let same = same_first old new s in
    let before : take k (lines_of new) ≡ take k (lines_of old) =
    take-append-le k (first_lines new) (map SetOf new.sets) (omega (arith, less)) ∙ ap (take k) same
    ∙ sym (take-append-le k (first_lines old) (map SetOf old.sets) (omega (arith, less, ap length same))) in
    ap₂ (λ (ports : List PortLine) (lines : List Line). all_kept (rules_at ports lines line)) (same_ports old new s) before ∙ kept

-- ---- the assignments

each_within : (old new : SetLine) → IsSimplifiedSet old new → (test : Src Text → Bool) → each_source test old ≡ true → each_source test new ≡ true
each_within old new s test all =
    let (guard, src) = and_parts (each_in_guard test old.guard) (test old.src) all in
    and_from (each_in_guard test new.guard) (test new.src) (sources_within test old.guard new.guard s.leaves guard) (ap test s.src ∙ src)

-- each assignment is an old one, simplified
pub old_set : (olds news : List SetLine) → AreSimplifiedSets olds news → (k : ℕ) (new : SetLine) → slice_get news k ≡ Some new → (j : ℕ) × (old : SetLine) × (slice_get olds j ≡ Some old) × IsSimplifiedSet old new
old_set _ _ NoSets k new at = absurd (cc)
old_set _ _ (Kept old first olds news s rest) zero new at = (0, old, refl, subst (IsSimplifiedSet old) (same_Some first new at) s)
old_set _ _ (Kept old first olds news s rest) (suc k) new at = let (j, found, there, is) = old_set olds news rest k new at in (suc j, found, there, is)
old_set _ _ (Left old olds news never rest) k new at = let (j, found, there, is) = old_set olds news rest k new at in (suc j, found, there, is)

three_kept : (a b c : Bool) → a ≡ true → b ≡ true → c ≡ true → (a && (b && (c && true))) ≡ true
three_kept a b c p q r = and_from a (b && (c && true)) p (and_from b (c && true) q (and_from c true r refl))

set_kept : (old new : Netlist) → IsSimplified old new → (k : ℕ) (a b : SetLine) → IsSimplifiedSet b a → SetKeeps old b → LineKeepsRules new k (SetOf a)
set_kept old new s k a b is keeps =
    let ports = ports_of new in
    let named : is_some_dst ports a.dst ≡ true = ap₂ is_some_dst (same_ports old new s) is.dst ∙ keeps.exists in
    let driven : writes ports a.dst ≡ true = ap₂ writes (same_ports old new s) is.dst ∙ keeps.writable in
    let exist : each_source (source_exists ports) a ≡ true = ap (λ (ps : List PortLine). each_source (source_exists ps) a) (same_ports old new s) ∙ each_within b a is (source_exists (ports_of old)) keeps.sources in
    let read : each_source (source_is_readable ports) a ≡ true = ap (λ (ps : List PortLine). each_source (source_is_readable ps) a) (same_ports old new s) ∙ each_within b a is (source_is_readable (ports_of old)) keeps.readable in
    let fit : each_source literal_fits a ≡ true = each_within b a is literal_fits keeps.literals in
    let wide : port_width ports a.dst ≡ source_width ports a.src =
    ap₂ port_width (same_ports old new s) is.dst ∙ keeps.widths ∙ sym (ap₂ source_width (same_ports old new s) is.src) in
    let both : (port_width ports a.dst == source_width ports a.src) ≡ true = (Decides-eqb (port_width ports a.dst) (source_width ports a.src)).1 wide in
    let agree : option_widths_agree ports a.guard ≡ true = ap (λ (ps : List PortLine). option_widths_agree ps a.guard) (same_ports old new s) ∙ widths_within (ports_of old) b.guard a.guard is.leaves keeps.guard in
    three_kept _ _ _
    (and_from _ _ named exist)
    (and_from _ _ (and_from _ _ fit both) agree)
    (and_from _ _ driven read)

set_at : (sets : List SetLine) (j : ℕ) (line : Line) → slice_get (map SetOf sets) j ≡ Some line → (a : SetLine) × (slice_get sets j ≡ Some a) × (SetOf a ≡ line)
set_at [] j line at = absurd (cc)
set_at (a ∷ sets) zero line at = (a, refl, same_Some (SetOf a) line at)
set_at (a ∷ sets) (suc j) line at = set_at sets j line at

pub is_valid : (old new : Netlist) → IsSimplified old new → IsValid old → IsValid new
is_valid old new s valid k line at = elim (left_or_right (first_lines new) (map SetOf new.sets) k line at) [
  | inl (less, here) ↦
      let there : slice_get (lines_of old) k ≡ Some line = on_left (first_lines old) (map SetOf old.sets) k line (ap (λ (lines : List Line). slice_get lines k) (sym (same_first old new s)) ∙ here) in
      first_kept old new s k line less here (valid k line there)
  | inr (j, there) ↦
      let (a, here, same) = set_at new.sets j line there in
      let (i, b, place, is) = old_set old.sets new.sets s.sets j a here in
      subst (LineKeepsRules new k) same (set_kept old new s k a b is (set_keeps old valid i b place))
]
