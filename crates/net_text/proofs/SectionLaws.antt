-- The order of lines: the sections never go back.
use Rattle.std.proofs.Common.{◌≡◌, ℕ, ◌<◌, ◌≤◌, ◌&&◌, Bool, true, List, [], ◌∷◌, ◌++◌, length, map, leb, refl, sym, ap, ◌∙◌, append_assoc, arith}
use Rattle.std.specs.List.{list_all}
use Rattle.std.proofs.lemmas.Bool.{eqb-true, le-leb, leb-true}
use Rattle.std.proofs.lemmas.List.{append-nil, nil_from_length, map-append}
use Rattle.net_core.specs.Netlist.{Netlist, Line, InLine, OutLine, WireLine, CellOf, SetOf, lines_of}
use Rattle.net_text.specs.inside.ReadTexts.{is_nil, follows, with_line}
use Rattle.net_text.proofs.NumberLaws.{both_true}

abbrev section : Line → ℕ
section (InLine p) = 0
section (OutLine p) = 1
section (WireLine p) = 2
section (CellOf c) = 3
section (SetOf a) = 4

-- from section k on, and never back
abbrev rises : ℕ → List Line → Bool
rises k [] = true
rises k (line ∷ lines) = leb k (section line) && rises (section line) lines

rises_later : (j k : ℕ) (lines : List Line) → j ≤ k → rises k lines ≡ true → rises j lines ≡ true
rises_later j k [] le h = refl
rises_later j k (line ∷ lines) le h =
    let b = both_true (leb k (section line)) (rises (section line) lines) h in
    rw (le-leb j (section line) (omega (arith, leb-true k (section line) b.0))) b.1

rises_section : {A : Type 0} (of : A → Line) (k : ℕ) → ((a : A) → section (of a) ≡ k) → (xs : List A) (rest : List Line) → rises k rest ≡ true → rises k (map of xs ++ rest) ≡ true
rises_section of k is [] rest h = h
rises_section of k is (x ∷ xs) rest h =
    rw (is x, le-leb k k (omega arith)) (rises_section of k is xs rest h)

regroup : (n : Netlist) → lines_of n ≡ map InLine n.ins ++ (map OutLine n.outs ++ (map WireLine n.wires ++ (map CellOf n.cells ++ (map SetOf n.sets ++ []))))
regroup n = simp (append_assoc, append-nil)

lines_rise : (n : Netlist) → rises 0 (lines_of n) ≡ true
lines_rise n =
    let sets : List Line = map SetOf n.sets ++ [] in
    let cells : List Line = map CellOf n.cells ++ sets in
    let wires : List Line = map WireLine n.wires ++ cells in
    let outs : List Line = map OutLine n.outs ++ wires in
    let r4 : rises 4 sets ≡ true = rises_section SetOf 4 (λ a. refl) n.sets [] refl in
    let r3 : rises 3 cells ≡ true = rises_section CellOf 3 (λ c. refl) n.cells sets (rises_later 3 4 sets (omega arith) r4) in
    let r2 : rises 2 wires ≡ true = rises_section WireLine 2 (λ p. refl) n.wires cells (rises_later 2 3 cells (omega arith) r3) in
    let r1 : rises 1 outs ≡ true = rises_section OutLine 1 (λ p. refl) n.outs wires (rises_later 1 2 wires (omega arith) r2) in
    ap (rises 0) (regroup n) ∙ rises_section InLine 0 (λ p. refl) n.ins outs (rises_later 0 1 outs (omega arith) r1)

-- all before a line are of its section or an earlier one
abbrev none_after : Line → List Line → Bool
none_after line lines = list_all (λ before. leb (section before) (section line)) lines

before_rises : (k : ℕ) (before : List Line) (line : Line) (later : List Line) → rises k (before ++ line ∷ later) ≡ true → (none_after line before ≡ true) × (k ≤ section line)
before_rises k [] line later h = let b = both_true (leb k (section line)) (rises (section line) later) h in (refl, leb-true k (section line) b.0)
before_rises k (first ∷ before) line later h =
    let b = both_true (leb k (section first)) (rises (section first) (before ++ line ∷ later)) h in
    let r = before_rises (section first) before line later b.1 in
    (rw (le-leb (section first) (section line) r.1) r.0, omega (arith, leb-true k (section first) b.0, r.1))

all_left : (p : Line → Bool) (xs ys : List Line) → list_all p (xs ++ ys) ≡ true → (list_all p xs ≡ true) × (list_all p ys ≡ true)
all_left p [] ys h = (refl, h)
all_left p (x ∷ xs) ys h =
    let b = both_true (p x) (list_all p (xs ++ ys)) h in
    let r = all_left p xs ys b.1 in
    (rw b.0 r.0, r.1)

-- a section that stands after this line's is empty
empty_section : {A : Type 0} (of : A → Line) (k : ℕ) → ((a : A) → section (of a) ≡ k) → (line : Line) (xs : List A) → section line < k → none_after line (map of xs) ≡ true → is_nil xs ≡ true
empty_section of k is line [] lt h = refl
empty_section of k is line (x ∷ xs) lt h =
    let b = both_true (leb (section (of x)) (section line)) (none_after line (map of xs)) h in
    absurd (omega (arith, leb-true (section (of x)) (section line) b.0, is x))

record Empties (line : Line) (n : Netlist) : Type 0 where
  outs : section line < 1 → is_nil n.outs ≡ true
  wires : section line < 2 → is_nil n.wires ≡ true
  cells : section line < 3 → is_nil n.cells ≡ true
  sets : section line < 4 → is_nil n.sets ≡ true

empties : (line : Line) (n : Netlist) → none_after line (lines_of n) ≡ true → Empties line n
empties line n h =
    let p : Line → Bool = λ before. leb (section before) (section line) in
    let a = all_left p (map InLine n.ins ++ map OutLine n.outs ++ map WireLine n.wires ++ map CellOf n.cells) (map SetOf n.sets) h in
    let b = all_left p (map InLine n.ins ++ map OutLine n.outs ++ map WireLine n.wires) (map CellOf n.cells) a.0 in
    let c = all_left p (map InLine n.ins ++ map OutLine n.outs) (map WireLine n.wires) b.0 in
    let d = all_left p (map InLine n.ins) (map OutLine n.outs) c.0 in
    record {
      outs = λ lt. empty_section OutLine 1 (λ q. refl) line n.outs lt d.1;
      wires = λ lt. empty_section WireLine 2 (λ q. refl) line n.wires lt c.1;
      cells = λ lt. empty_section CellOf 3 (λ q. refl) line n.cells lt b.1;
      sets = λ lt. empty_section SetOf 4 (λ q. refl) line n.sets lt a.1;
    }

follows_after : (line : Line) (n : Netlist) → Empties line n → follows n line ≡ true
unfolding follows
follows_after (InLine p) n e = rw (e.outs (omega arith), e.wires (omega arith), e.cells (omega arith), e.sets (omega arith)) refl
follows_after (OutLine p) n e = rw (e.wires (omega arith), e.cells (omega arith), e.sets (omega arith)) refl
follows_after (WireLine p) n e = rw (e.cells (omega arith), e.sets (omega arith)) refl
follows_after (CellOf c) n e = e.sets (omega arith)
follows_after (SetOf a) n e = refl

-- a line that comes after those of a netlist in another follows them
pub follows_in : (m n : Netlist) (line : Line) (later : List Line) → lines_of m ≡ lines_of n ++ line ∷ later → follows n line ≡ true
follows_in m n line later e =
    let r = before_rises 0 (lines_of n) line later (ap (rises 0) (sym e) ∙ lines_rise m) in
    follows_after line n (empties line n r.0)

is_empty : {A : Type 0} (xs : List A) → is_nil xs ≡ true → xs ≡ []
is_empty xs h = nil_from_length xs (eqb-true (length xs) 0 h)

-- the line stands at the end
pub lines-with_line : (n : Netlist) (line : Line) → follows n line ≡ true → lines_of (with_line n line) ≡ lines_of n ++ line ∷ []
unfolding follows with_line
lines-with_line n (InLine p) h =
    let a = both_true (is_nil n.outs && is_nil n.wires && is_nil n.cells) (is_nil n.sets) h in
    let b = both_true (is_nil n.outs && is_nil n.wires) (is_nil n.cells) a.0 in
    let c = both_true (is_nil n.outs) (is_nil n.wires) b.0 in
    rw (is_empty n.outs c.0, is_empty n.wires c.1, is_empty n.cells b.1, is_empty n.sets a.1) (simp (append-nil, map-append))
lines-with_line n (OutLine p) h =
    let a = both_true (is_nil n.wires && is_nil n.cells) (is_nil n.sets) h in
    let b = both_true (is_nil n.wires) (is_nil n.cells) a.0 in
    rw (is_empty n.wires b.0, is_empty n.cells b.1, is_empty n.sets a.1) (simp (append-nil, map-append, append_assoc))
lines-with_line n (WireLine p) h =
    let a = both_true (is_nil n.cells) (is_nil n.sets) h in
    rw (is_empty n.cells a.0, is_empty n.sets a.1) (simp (append-nil, map-append, append_assoc))
lines-with_line n (CellOf c) h = rw (is_empty n.sets h) (simp (append-nil, map-append, append_assoc))
lines-with_line n (SetOf a) h = simp (map-append, append_assoc)
