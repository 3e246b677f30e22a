use Rattle.std.proofs.Common.{◌≡◌, ◌<◌, ◌≤◌, ◌+◌, ◌++◌, ◌∷◌, [], ℕ, List, length, map, take, get_or, sym, ap, ◌∙◌, arith}
use Rattle.std.specs.Prelude.{filter}
use Rattle.std.specs.List.{flat_map}
use Rattle.std.proofs.lemmas.List.{append-nil, take_all, take_more}
use Rattle.std.proofs.lemmas.List.Concat.{flat_map-append}
use Rattle.std.proofs.lemmas.List.Elements.{filter-append}
use Rattle.std.proofs.lemmas.Option.{same_Some}
use Rattle.hw_cells.proofs.WayLemmas.{kept, left_out}
use Rattle.hw_cells.specs.Cells.{is_below}
use Rattle.hw_names.specs.Name.{Text}
use Rattle.cal_ast.specs.Wires.{shown}
use Rattle.cal_wires.specs.Nodes.{key_of, node_ports}
use Rattle.cal_loops.proofs.least_loop.full_names.Goals as goal
use Rattle.cal_loops.proofs.least_loop.full_names.Goals.{then-number-len+in_ok-key+in_ok-add_full_name, else-number-len}

module _ (f : ℕ → List Text) (count : ℕ) (numbers : List ℕ) (k : ℕ) (lt : k < length numbers) where
  abbrev before : List ℕ
  before = filter (is_below count) (take k numbers)

  more : before ++ filter (is_below count) (get_or numbers k 0 ∷ []) ≡ filter (is_below count) (take (k + 1) numbers)
  more = sym (filter-append (is_below count) (take k numbers) (get_or numbers k 0 ∷ [])) ∙ ap (filter (is_below count)) (sym (take_more numbers k 0 lt))

  -- a number of a port or hole adds its name, if it has one
  named : get_or numbers k 0 < count → flat_map f before ++ f (get_or numbers k 0) ≡ flat_map f (filter (is_below count) (take (k + 1) numbers))
  named less =
      ap (λ (l : List Text). flat_map f before ++ l) (sym (append-nil (f (get_or numbers k 0))))
      ∙ sym (flat_map-append f before (get_or numbers k 0 ∷ []))
      ∙ ap (λ (l : List ℕ). flat_map f (before ++ l)) (sym (kept count (get_or numbers k 0) [] less))
      ∙ ap (flat_map f) more

  -- another adds none
  skipped : count ≤ get_or numbers k 0 → flat_map f before ≡ flat_map f (filter (is_below count) (take (k + 1) numbers))
  skipped past = ap (flat_map f) (sym (append-nil before) ∙ ap (λ (l : List ℕ). before ++ l) (sym (left_out count (get_or numbers k 0) [] past)) ∙ more)

pub key_at-requires : goal.key_at-requires
key_at-requires c = omega (arith, c.if-number-len.true, c.len.ensures.len)

pub loop-number-preserved : goal.loop-number-preserved
loop-number-preserved c node are =
    let numbers = c.args.numbers.now in
    let count = length c.args.ports.now.keys in
    let k = c.loop-number.number-index in
    let i = get_or numbers k 0 in
    let f : ℕ → List Text = λ number. map shown (node_ports (node number)) in
    elim c.if-number-len.branch [
      | then-number-len+in_ok-key+in_ok-add_full_name w ↦
          (let less : i < count = omega (arith, w.if-number-len.true, c.len.ensures.len) in
          let made = w.in_ok-key.key.items in
          let key = w.deref.ensures.value ∙ same_Some made (key_of (node i)) (sym w.in_ok-key.ensures ∙ are i less) in
          rw w.names-is (
          w.in_ok-add_full_name.ensures (node i) key
          ∙ ap (λ (l : List Text). l ++ f i) (c.loop-number.invariant node are)
          ∙ named f count numbers k c.loop-number-test.true less))
      | else-number-len w ↦
          (let past : count ≤ i = omega (arith, w.if-number-len.false, c.len.ensures.len) in
          rw w.names-is (c.loop-number.invariant node are ∙ skipped f count numbers k c.loop-number-test.true past))
    ]

pub returns : goal.returns
returns c node are =
    let f : ℕ → List Text = λ number. map shown (node_ports (node number)) in
    let count = length c.args.ports.now.keys in
    c.loop-number.invariant node are ∙ ap (λ (l : List ℕ). flat_map f (filter (is_below count) l)) (take_all c.loop-number.number-index c.args.numbers.now c.loop-number-test.false)
