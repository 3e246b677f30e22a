-- A text spells at most one netlist.
use Rattle.std.proofs.Common.{◌≡◌, true, List, [], ◌∷◌, ◌++◌, map, codes, refl, sym, ap, ◌∙◌}
use Rattle.std.specs.List.{list_all, flat_map}
use Rattle.std.proofs.lemmas.List.{append-nil, append_cancel_left, append_cancel_right}
use Rattle.std.proofs.lemmas.List.Concat.{flat_map-append}
use Rattle.hw_names.specs.Name.{Text}
use Rattle.hw_prims.specs.Table.{Pin}
use Rattle.net_core.specs.Netlist.{Netlist, Line, InLine, OutLine, WireLine, CellOf, SetOf, CellLine, SetLine, lines_of}
use Rattle.net_text.specs.Layout.{line_text, ended}
use Rattle.net_text.specs.Names.{line_has_text}
use Rattle.net_text.specs.Reading.{Spells, whole_lines}
use Rattle.net_text.proofs.NumberLaws.{both_true}
use Rattle.net_text.proofs.FeedLaws.{line_injective}
use Rattle.net_text.proofs.TextLaws.{head_is, ended_is, end_line, first_line, last_line, text_lines, lines-text}

same_lines : (xs ys : List Line) → list_all line_has_text xs ≡ true → list_all line_has_text ys ≡ true → map end_line xs ≡ map end_line ys → xs ≡ ys
same_lines [] [] h k e = refl
same_lines [] (y ∷ ys) h k e = absurd cc
same_lines (x ∷ xs) [] h k e = absurd cc
same_lines (x ∷ xs) (y ∷ ys) h k e =
    let p = head_is (end_line x) (end_line y) (map end_line xs) (map end_line ys) e in
    let a = both_true (line_has_text x) (list_all line_has_text xs) h in
    let b = both_true (line_has_text y) (list_all line_has_text ys) k in
    let first = line_injective x y a.0 b.0 (ended_is (line_text x) (line_text y) p.0) in
    let rest = same_lines xs ys a.1 b.1 p.1 in
    cc

-- what lines of a section hold, picked from all lines
pick_own : {A : Type 0} (pick : Line → List A) (of : A → Line) → ((a : A) → pick (of a) ≡ a ∷ []) → (xs : List A) → flat_map pick (map of xs) ≡ xs
pick_own pick of is [] = refl
pick_own pick of is (x ∷ xs) = rw is (ap (λ l. x ∷ l) (pick_own pick of is xs))

pick_other : {A B : Type 0} (pick : Line → List A) (of : B → Line) → ((b : B) → pick (of b) ≡ []) → (xs : List B) → flat_map pick (map of xs) ≡ []
pick_other pick of is [] = refl
pick_other pick of is (x ∷ xs) = rw is (pick_other pick of is xs)

split : {A : Type 0} (pick : Line → List A) (n : Netlist) → flat_map pick (lines_of n) ≡
    flat_map pick (map InLine n.ins) ++ flat_map pick (map OutLine n.outs) ++ flat_map pick (map WireLine n.wires) ++ flat_map pick (map CellOf n.cells) ++ flat_map pick (map SetOf n.sets)
split pick n = simp flat_map-append

in_of : Line → List Pin
in_of (InLine p) = p ∷ []
in_of _ = []

out_of : Line → List Pin
out_of (OutLine p) = p ∷ []
out_of _ = []

wire_of : Line → List Pin
wire_of (WireLine p) = p ∷ []
wire_of _ = []

cell_of : Line → List CellLine
cell_of (CellOf c) = c ∷ []
cell_of _ = []

set_of : Line → List SetLine
set_of (SetOf a) = a ∷ []
set_of _ = []

ins : (n : Netlist) → flat_map in_of (lines_of n) ≡ n.ins
unfolding in_of
ins n = split in_of n ∙ rw (pick_own in_of InLine (λ p. refl) n.ins, pick_other in_of OutLine (λ p. refl) n.outs, pick_other in_of WireLine (λ p. refl) n.wires, pick_other in_of CellOf (λ p. refl) n.cells, pick_other in_of SetOf (λ p. refl) n.sets) (simp append-nil)

outs : (n : Netlist) → flat_map out_of (lines_of n) ≡ n.outs
unfolding out_of
outs n = split out_of n ∙ rw (pick_other out_of InLine (λ p. refl) n.ins, pick_own out_of OutLine (λ p. refl) n.outs, pick_other out_of WireLine (λ p. refl) n.wires, pick_other out_of CellOf (λ p. refl) n.cells, pick_other out_of SetOf (λ p. refl) n.sets) (simp append-nil)

wires : (n : Netlist) → flat_map wire_of (lines_of n) ≡ n.wires
unfolding wire_of
wires n = split wire_of n ∙ rw (pick_other wire_of InLine (λ p. refl) n.ins, pick_other wire_of OutLine (λ p. refl) n.outs, pick_own wire_of WireLine (λ p. refl) n.wires, pick_other wire_of CellOf (λ p. refl) n.cells, pick_other wire_of SetOf (λ p. refl) n.sets) (simp append-nil)

cells : (n : Netlist) → flat_map cell_of (lines_of n) ≡ n.cells
unfolding cell_of
cells n = split cell_of n ∙ rw (pick_other cell_of InLine (λ p. refl) n.ins, pick_other cell_of OutLine (λ p. refl) n.outs, pick_other cell_of WireLine (λ p. refl) n.wires, pick_own cell_of CellOf (λ p. refl) n.cells, pick_other cell_of SetOf (λ p. refl) n.sets) (simp append-nil)

sets : (n : Netlist) → flat_map set_of (lines_of n) ≡ n.sets
unfolding set_of
sets n = split set_of n ∙ rw (pick_other set_of InLine (λ p. refl) n.ins, pick_other set_of OutLine (λ p. refl) n.outs, pick_other set_of WireLine (λ p. refl) n.wires, pick_other set_of CellOf (λ p. refl) n.cells, pick_own set_of SetOf (λ p. refl) n.sets) refl

same_netlist : (m n : Netlist) → m.name ≡ n.name → lines_of m ≡ lines_of n → m ≡ n
same_netlist m n name lines =
    let a : m.ins ≡ n.ins = sym (ins m) ∙ ap (flat_map in_of) lines ∙ ins n in
    let b : m.outs ≡ n.outs = sym (outs m) ∙ ap (flat_map out_of) lines ∙ outs n in
    let c : m.wires ≡ n.wires = sym (wires m) ∙ ap (flat_map wire_of) lines ∙ wires n in
    let d : m.cells ≡ n.cells = sym (cells m) ∙ ap (flat_map cell_of) lines ∙ cells n in
    let e : m.sets ≡ n.sets = sym (sets m) ∙ ap (flat_map set_of) lines ∙ sets n in
    λ i. record { name = name i; ins = a i; outs = b i; wires = c i; cells = d i; sets = e i }

pub one_netlist : (text : Text) (m n : Netlist) → Spells text m → Spells text n → m ≡ n
one_netlist text m n p q =
    let lines : text_lines m ≡ text_lines n = sym (lines-text m p.0) ∙ ap whole_lines (sym p.1 ∙ q.1) ∙ lines-text n q.0 in
    let h = head_is (ended (first_line m)) (ended (first_line n)) (map end_line (lines_of m) ++ last_line ∷ []) (map end_line (lines_of n) ++ last_line ∷ []) lines in
    let name : m.name ≡ n.name = append_cancel_left (codes "net ") m.name n.name (ended_is (first_line m) (first_line n) h.0) in
    same_netlist m n name (same_lines (lines_of m) (lines_of n) p.0.1 q.0.1 (append_cancel_right (map end_line (lines_of m)) (map end_line (lines_of n)) (last_line ∷ []) h.1))
