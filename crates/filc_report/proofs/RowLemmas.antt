-- Printed rows: they depend on the printed ports alone, and more rows go on from fewer.
use Rattle.std.proofs.Common.{◌≡◌, ℕ, zero, suc, ◌+◌, ◌-◌, ◌<◌, ◌≤◌, List, [], ◌∷◌, ◌++◌, length, drop, get_or, flat_map, decimal, Contains, refl, sym, ap, ap₂, subst, ◌∙◌, arith, append_assoc, add-zero, add-suc, slice_get, slice_range, Some, get_or-take, get_or-drop, length-take, length-drop}
use Rattle.std.proofs.lemmas.List.{append-nil}
use Rattle.std.proofs.lemmas.Option.{get_or_from_slice_get}
use Rattle.std.specs.Prelude.{Bool, All, codes}
use Rattle.std.proofs.lemmas.List.Elements.{Contains-append_right}
use Rattle.hw_names.specs.Name.{Text}
use Rattle.fil_ast.specs.Signature.{SigPort}
use Rattle.stim_read.proofs.EachLemmas.{cut_at}
use Rattle.stim_read.specs.TxRun.{Transaction}
use Rattle.hw_prims.specs.Row.{Row, Trace}
use Rattle.filc_report.specs.Rows.{port_text, row_text, lines_text, marked_port, marked_ports, marked_line}
use Rattle.fil_driven.specs.Shown.{shown_value, outputs_line}

-- rows that agree at ports have one text of them
pub values_same : (row row' : Row) (ports : List Text) → ((port : Text) → Contains ports port → row port ≡ row' port) → flat_map (λ port. port_text port (row port)) ports ≡ flat_map (λ port. port_text port (row' port)) ports
values_same row row' [] same = refl
values_same row row' (port ∷ ports) same =
    ap₂ ◌++◌ (ap (λ v. port_text port v) (same port (0, omega arith, refl)))
    (values_same row row' ports (λ other has. same other (Contains-append_right (port ∷ []) ports other has)))

pub row_same : (ports : List Text) (cycle : ℕ) (row row' : Row) → ((port : Text) → Contains ports port → row port ≡ row' port) → row_text ports cycle row ≡ row_text ports cycle row'
row_same ports cycle row row' same = ap (λ values. (decimal cycle ++ values) ++ 10 ∷ []) (values_same row row' ports same)

-- outputs with the same values have the same line
outputs_same : (txs : List Transaction) (cycle : ℕ) (row row' : Row) (outs : List SigPort) → All (λ (p : SigPort). row p.name ≡ row' p.name) outs → flat_map (λ (p : SigPort). codes " " ++ p.name ++ codes "=" ++ shown_value txs cycle p (row p.name)) outs ≡ flat_map (λ (p : SigPort). codes " " ++ p.name ++ codes "=" ++ shown_value txs cycle p (row' p.name)) outs
outputs_same txs cycle row row' [] same = refl
outputs_same txs cycle row row' (p ∷ outs) same =
    ap₂ ◌++◌ (ap (λ v. codes " " ++ p.name ++ codes "=" ++ shown_value txs cycle p v) (same 0 p (omega arith)))
    (outputs_same txs cycle row row' outs (λ k d within. same (suc k) d (omega arith)))

pub outputs_line_same : (txs : List Transaction) (outs : List SigPort) (cycle : ℕ) (row row' : Row) → All (λ (p : SigPort). row p.name ≡ row' p.name) outs → outputs_line txs outs cycle row ≡ outputs_line txs outs cycle row'
outputs_line_same txs outs cycle row row' same = ap (λ values. (decimal cycle ++ values) ++ 10 ∷ []) (outputs_same txs cycle row row' outs same)

pub lines_same : (line : ℕ → Row → Text) (trace trace' : Trace) (t : ℕ) → ((k : ℕ) → k < t → line k (trace k) ≡ line k (trace' k)) → lines_text line trace t ≡ lines_text line trace' t
lines_same line trace trace' zero same = refl
lines_same line trace trace' (suc t) same = ap₂ ◌++◌ (lines_same line trace trace' t (λ k before. same k (omega arith))) (same t (omega arith))

lines_and_more : (line : ℕ → Row → Text) (trace : Trace) (t more : ℕ) → (rest : Text) × (lines_text line trace t ++ rest ≡ lines_text line trace (t + more))
lines_and_more line trace t zero = ([], append-nil (lines_text line trace t) ∙ ap (lines_text line trace) (sym (add-zero t)))
lines_and_more line trace t (suc more) =
    let fewer = lines_and_more line trace t more in
    let last : Text = line (t + more) (trace (t + more)) in
    (fewer.0 ++ last, sym (append_assoc (lines_text line trace t) fewer.0 last) ∙ ap (λ front. front ++ last) fewer.1 ∙ ap (lines_text line trace) (sym (add-suc t more)))

-- the text of fewer rows is a prefix of the text of more
pub fewer_lines : (line : ℕ → Row → Text) (trace : Trace) (t u : ℕ) → t ≤ u → (rest : Text) × (lines_text line trace t ++ rest ≡ lines_text line trace u)
fewer_lines line trace t u few =
    let all : t + (u - t) ≡ u = omega arith in
    subst (λ n. (rest : Text) × (lines_text line trace t ++ rest ≡ lines_text line trace n)) all (lines_and_more line trace t (u - t))

-- ---- the ports of a line, one after another

-- what a line still has from its port k on
abbrev pub rest_of_line : List Text → List ℕ → List Bool → ℕ → Text
rest_of_line names values marks k = marked_ports (drop k names) (drop k values) (drop k marks) ++ 10 ∷ []

pub next_of_line : (names : List Text) (values : List ℕ) (marks : List Bool) (k : ℕ) (name : Text) (value : ℕ) (mark : Bool) → k < length names → k < length values → k < length marks → name ≡ get_or names k name → value ≡ get_or values k value → mark ≡ get_or marks k mark → rest_of_line names values marks k ≡ marked_port name value mark ++ rest_of_line names values marks (k + 1)
next_of_line names values marks k name value mark named valued marked name_is value_is mark_is =
    ap₂ (λ ns (f : List Text → Text). f ns) (cut_at names k name named name_is) (λ j. λ (ns : List Text). marked_ports ns (cut_at values k value valued value_is j) (cut_at marks k mark marked mark_is j) ++ 10 ∷ [])
    ∙ append_assoc (marked_port name value mark) (marked_ports (drop (k + 1) names) (drop (k + 1) values) (drop (k + 1) marks)) (10 ∷ [])

pub no_more : {X : Type 0} (xs : List X) (k : ℕ) → length xs ≤ k → drop k xs ≡ []
no_more [] zero past = refl
no_more [] (suc k) past = refl
no_more (x ∷ xs) zero past = absurd (omega (arith, past))
no_more (x ∷ xs) (suc k) past = no_more xs k (omega (arith, past))

no_marks : (names : List Text) (values : List ℕ) → marked_ports names values [] ≡ []
no_marks [] values = refl
no_marks (name ∷ names) [] = refl
no_marks (name ∷ names) (value ∷ values) = refl

pub end_of_line : (names : List Text) (values : List ℕ) (marks : List Bool) (k : ℕ) → length marks ≤ k → rest_of_line names values marks k ≡ 10 ∷ []
end_of_line names values marks k past =
    ap (λ ms. marked_ports (drop k names) (drop k values) ms ++ 10 ∷ []) (no_more marks k past) ∙ ap (λ text. text ++ 10 ∷ []) (no_marks (drop k names) (drop k values))

pub line_from : (cycle : ℕ) (names : List Text) (values : List ℕ) (marks : List Bool) → marked_line cycle names values marks ≡ decimal cycle ++ rest_of_line names values marks 0
line_from cycle names values marks = append_assoc (decimal cycle) (marked_ports names values marks) (10 ∷ [])

-- a value of a range, by its place among all
pub range_at : {X : Type 0} (xs : List X) (from to k : ℕ) (x : X) → from + k < to → slice_get xs (from + k) ≡ Some x → x ≡ get_or (slice_range xs from to) k x
range_at xs from to k x within at =
    let inside : k < to - from = omega arith in
    sym (get_or-take (to - from) (drop from xs) k x inside ∙ get_or-drop from xs k x ∙ get_or_from_slice_get xs (from + k) x x at)

pub range_length : {X : Type 0} (xs : List X) (from to : ℕ) → to ≤ length xs → length (slice_range xs from to) ≡ to - from
range_length xs from to within = omega (arith, length-take (to - from) (drop from xs), length-drop from xs)
