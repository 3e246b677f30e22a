use Rattle.std.proofs.Common.{◌≡◌, ◌<◌, ◌≤◌, ◌+◌, ◌++◌, ◌∷◌, [], ℕ, List, length, map, take, get_or, sym, ap, ap₂, ◌∙◌, arith}
use Rattle.std.specs.Prelude.{filter}
use Rattle.std.proofs.lemmas.List.{append-nil, map-append, take_all, take_more}
use Rattle.std.proofs.lemmas.List.Elements.{filter-append}
use Rattle.std.proofs.lemmas.Option.{get_or_from_slice_get}
use Rattle.hw_cells.proofs.WayLemmas.{kept, left_out}
use Rattle.hw_cells.specs.Cells.{is_below}
use Rattle.hw_names.specs.Name.{Text}
use Rattle.fil_loops.proofs.wires.full_names.Goals as goal
use Rattle.fil_loops.proofs.wires.full_names.Goals.{then-node-len+in_ok-name+in_ok-make+in_ok-push, else-node-len}

module _ (f : ℕ → Text) (count : ℕ) (nodes : List ℕ) (k : ℕ) (lt : k < length nodes) where
  abbrev before : List ℕ
  before = filter (is_below count) (take k nodes)

  more : before ++ filter (is_below count) (get_or nodes k 0 ∷ []) ≡ filter (is_below count) (take (k + 1) nodes)
  more = sym (filter-append (is_below count) (take k nodes) (get_or nodes k 0 ∷ [])) ∙ ap (filter (is_below count)) (sym (take_more nodes k 0 lt))

  -- a port adds its name
  named : get_or nodes k 0 < count → map f before ++ f (get_or nodes k 0) ∷ [] ≡ map f (filter (is_below count) (take (k + 1) nodes))
  named less =
      sym (map-append f before (get_or nodes k 0 ∷ []))
      ∙ ap (λ (l : List ℕ). map f (before ++ l)) (sym (kept count (get_or nodes k 0) [] less))
      ∙ ap (map f) more

  -- another node adds none
  skipped : count ≤ get_or nodes k 0 → map f before ≡ map f (filter (is_below count) (take (k + 1) nodes))
  skipped past = ap (map f) (sym (append-nil before) ∙ ap (λ (l : List ℕ). before ++ l) (sym (left_out count (get_or nodes k 0) [] past)) ∙ more)

pub full_name-requires : goal.full_name-requires
full_name-requires c = omega (arith, c.if-node-len.true, c.len.ensures.len)

pub loop-node-preserved : goal.loop-node-preserved
loop-node-preserved c =
    let names = c.args.ports.now.names in
    let nodes = c.args.nodes.now in
    let k = c.loop-node.node-index in
    let i = get_or nodes k 0 in
    let f : ℕ → Text = λ port. get_or names port [] in
    elim c.if-node-len.branch [
      | then-node-len+in_ok-name+in_ok-make+in_ok-push w ↦
          (let less : i < length names = omega (arith, w.if-node-len.true, c.len.ensures.len) in
          let name = w.in_ok-name.name.items in
          rw w.words-is (
          w.in_ok-push.ensures.items
          ∙ ap₂ (λ (ws : List Text) (t : Text). ws ++ t ∷ []) c.loop-node.invariant (w.in_ok-make.ensures ∙ w.deref.ensures.value ∙ sym (get_or_from_slice_get names i name [] w.in_ok-name.ensures))
          ∙ named f (length names) nodes k c.loop-node-test.true less))
      | else-node-len w ↦
          (let past : length names ≤ i = omega (arith, w.if-node-len.false, c.len.ensures.len) in
          rw w.words-is (c.loop-node.invariant ∙ skipped f (length names) nodes k c.loop-node-test.true past))
    ]

pub returns : goal.returns
returns c =
    let names = c.args.ports.now.names in
    let f : ℕ → Text = λ port. get_or names port [] in
    c.loop-node.invariant ∙ ap (λ (l : List ℕ). map f (filter (is_below (length names)) l)) (take_all c.loop-node.node-index c.args.nodes.now c.loop-node-test.false)
