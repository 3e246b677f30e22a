-- A component whose threads have registers, as a whole, made of the one whose tokens have.
use Rattle.std.proofs.Common.{◌≡◌, ℕ, ◌+◌, ◌<◌, ◌≤◌, List, [], ◌∷◌, ◌++◌, length, map, take, drop, ◌≢◌, Bool, true, false, Option, Some, None, refl, sym, ap, ap₂, subst, ◌∙◌, append_assoc, append-nil, codes, All, Vec, Global, arith, inl, inr}
use Rattle.std.specs.Prelude.{flat_map}
use Rattle.std.specs.List.{AllZip}
use Rattle.std.proofs.lemmas.Bool.{cases_Bool, cond-true, cond-false}
use Rattle.std.proofs.Math.Seq.{drop-append_seam, take-append_seam}
use Rattle.std.proofs.lemmas.List.{drop-map, length-append, length-map}
use Rattle.std.specs.List.{take-map}
use Rattle.std.proofs.lemmas.List.Concat.{flat_map-append}
use Rattle.std.proofs.lemmas.List.Elements.{All-cons, All-drop, All-head, All-nil, All-tail, All-take}
use Rattle.hw_names.specs.Name.{KeepsTexts, Text}
use Rattle.hw_names.specs.declared.names.NameId.{NameId}
use Rattle.cal_ast.specs.Numbers.{CellHasNumbers, ComponentHasNumbers, SetHasNumbers}
use Rattle.cal_ast.specs.Plan.{Plan, plan_of}
use Rattle.cal_ast.specs.Ports.{is_bare}
use Rattle.cal_ast.specs.Tree.{Absent, Assignment, CellDef, Component, assignment_tree, cell_tree, component_tree}
use Rattle.cal_ast.specs.declared.tree.Assign.{Assign}
use Rattle.cal_ast.specs.declared.tree.CalCell.{CalCell}
use Rattle.cal_ast.specs.declared.tree.CalComp.{CalComp}
use Rattle.cal_ast.specs.declared.tree.ControlPart.TheVariants as part
use Rattle.cal_lower.specs.inside.Lowered.{control_pieces, done_set, group_pieces, instance_pieces, lowered, plan_pieces, with_registers}
use Rattle.cal_lower.specs.inside.Pieces.{Kind, Wire, Register, Piece, made_by, piece_cell, piece_sets}
use Rattle.cal_lower.specs.inside.Shown.{Shows, ShowAll, ShowsName}
use Rattle.cal_lower.proofs.ComponentLemmas.{lowered_bare, lowered_full}
use Rattle.cal_lower.proofs.GrownLemmas.{name_number, name_text, show_append}
use Rattle.cal_lower.proofs.ListLemmas.{Each}
use Rattle.cal_lower.proofs.StableLemmas.{KeepsTexts-refl, KeepsTexts-trans}
use Rattle.cal_state.specs.inside.Encoded.{encoded, instance_wires, over_set, thread_sets, wires, with_states}
use Rattle.cal_state.specs.inside.Making.{HasKind, ShowSets, wire_cell, wire_def}
use Rattle.cal_state.specs.inside.States.{all_next_sets, as_wires, thread_cell, thread_enable}
use Rattle.cal_state.specs.inside.Threads.{Place, NoState, IsIn, plan_places, threads}
use Rattle.cal_state.proofs.EncodedLemmas.{encoded_bare, encoded_full, piece_names, wires_named}
use Rattle.cal_state.proofs.PlaceLemmas.{Aligned, Fits}
use Rattle.cal_state.proofs.RegisterLemmas.{all_wires, IsWire, plan_aligned}

-- ---- the kinds of the pieces of a plan

kinds_of : (ps : List Piece) (xs : List Place) → Aligned ps xs → AllZip HasKind xs ps
kinds_of [] [] fit = fit
kinds_of [] (x ∷ xs) fit = absurd fit
kinds_of (p ∷ ps) [] fit = absurd fit
kinds_of (p ∷ ps) (NoState ∷ xs) fit = (fit.0, kinds_of ps xs fit.1)
kinds_of (p ∷ ps) (IsIn token state ∷ xs) fit = (fit.0.0, kinds_of ps xs fit.1)

pub plan_kinds : (plan : Plan) → AllZip HasKind (plan_places plan) (plan_pieces plan)
plan_kinds plan = kinds_of (plan_pieces plan) (plan_places plan) (plan_aligned plan)

-- ---- cells

wire_cell_is : (p w : Piece) → w.kind ≡ Wire → w.name ≡ p.name → wire_def (piece_cell p) ≡ piece_cell w
wire_cell_is p w is name = ap₂ (λ (n : Text) (k : Kind). record { name = n; made = made_by k; params = 1 ∷ []; external = false }) (sym name) (sym is)

wires_are : (ps ws : List Piece) → Each IsWire ws → piece_names ws ≡ piece_names ps → map wire_def (map piece_cell ps) ≡ map piece_cell ws
wires_are [] [] each same = refl
wires_are [] (w ∷ ws) each same = absurd (cc)
wires_are (p ∷ ps) [] each same = absurd (cc)
wires_are (p ∷ ps) (w ∷ ws) each same =
    let first : w.name ≡ p.name = cc in
    let rest : piece_names ws ≡ piece_names ps = cc in
    ap₂ ◌∷◌ (wire_cell_is p w each.0 first) (wires_are ps ws each.1 rest)

pub control_wires : (c : Component) → map wire_def (map piece_cell (control_pieces c)) ≡ map piece_cell (wires c)
control_wires c = wires_are (control_pieces c) (wires c) (all_wires c) (wires_named c)

-- as texts and as numbers
module _ (names : List Text) (wire : NameId) (is : ShowsName names (codes "std_wire") wire) where
  module _ (later : List Text) (more : KeepsTexts names later) where
    wire_tree : (c : CalCell) → cell_tree later (wire_cell wire c) ≡ wire_def (cell_tree later c)
    wire_tree c = ap (λ (t : Text). record (cell_tree later c) { made = t }) (name_text later (codes "std_wire") wire (more _ _ is))

    wire_trees : (cells : List CalCell) → map (cell_tree later) (map (wire_cell wire) cells) ≡ map wire_def (map (cell_tree later) cells)
    wire_trees [] = refl
    wire_trees (c ∷ cells) = ap₂ ◌∷◌ (wire_tree c) (wire_trees cells)

    wire_numbers : (cells : List CalCell) → All (CellHasNumbers later) cells → All (CellHasNumbers later) (map (wire_cell wire) cells)
    wire_numbers [] all = All-nil (CellHasNumbers later)
    wire_numbers (c ∷ cells) all =
        All-cons (CellHasNumbers later) (wire_cell wire c) (map (wire_cell wire) cells)
        ((All-head (CellHasNumbers later) c cells all).0, name_number later (codes "std_wire") wire (more _ _ is)) (wire_numbers cells (All-tail (CellHasNumbers later) c cells all))

  -- the cells of the source, those of pieces as wires, and further ones
  pub cells_encoded : (first added more : List CellDef) (own : ℕ) (cells registers mine rest wires all : List CalCell) → length first ≡ own
      → ShowAll CellHasNumbers cell_tree names (first ++ added) cells → ShowAll CellHasNumbers cell_tree names more registers → mine ≡ take own cells → rest ≡ drop own cells
      → wires ≡ map (wire_cell wire) rest → all ≡ (mine ++ wires) ++ registers → ShowAll CellHasNumbers cell_tree names (first ++ map wire_def added ++ more) all
  cells_encoded first added more own cells registers mine rest wires all count shows others mine_is rest_is wires_is all_is =
      let own_shows : ShowAll CellHasNumbers cell_tree names first (take own cells) = record {
        trees = λ later kept.
            sym (take-map (cell_tree later) own cells) ∙ ap (take own) (shows.trees later kept) ∙ ap (λ (k : ℕ). take k (first ++ added)) (sym count) ∙ take-append_seam first added;
        numbers = λ later kept. All-take (CellHasNumbers later) own cells (shows.numbers later kept);
      } in
      let rest_shows : ShowAll CellHasNumbers cell_tree names added (drop own cells) = record {
        trees = λ later kept.
            sym (drop-map (cell_tree later) own cells) ∙ ap (drop own) (shows.trees later kept) ∙ ap (λ (k : ℕ). drop k (first ++ added)) (sym count) ∙ drop-append_seam first added;
        numbers = λ later kept. All-drop (CellHasNumbers later) own cells (shows.numbers later kept);
      } in
      let wire_shows : ShowAll CellHasNumbers cell_tree names (map wire_def added) (map (wire_cell wire) (drop own cells)) = record {
        trees = λ later kept. wire_trees later kept (drop own cells) ∙ ap (map wire_def) (rest_shows.trees later kept);
        numbers = λ later kept. wire_numbers later kept (drop own cells) (rest_shows.numbers later kept);
      } in
      let both = show_append CellHasNumbers cell_tree names (first ++ map wire_def added) more (take own cells ++ map (wire_cell wire) (drop own cells)) registers
      (show_append CellHasNumbers cell_tree names first (map wire_def added) (take own cells) (map (wire_cell wire) (drop own cells)) own_shows wire_shows) others in
      let same : all ≡ (take own cells ++ map (wire_cell wire) (drop own cells)) ++ registers =
      all_is ∙ ap₂ (λ (a b : List CalCell). (a ++ b) ++ registers) mine_is (wires_is ∙ ap (map (wire_cell wire)) rest_is) in
      let P : List CalCell → Type 0 = ShowAll CellHasNumbers cell_tree names (first ++ map wire_def added ++ more) in
      subst P (sym same) both

-- ---- assignments

module _ (c : Component) where
  abbrev pub own_plan : Plan
  own_plan = plan_of c

  abbrev pub groups_part : List Assignment
  groups_part = flat_map piece_sets (flat_map (group_pieces own_plan) c.groups)

  abbrev pub plan_part : List Assignment
  plan_part = flat_map piece_sets (plan_pieces own_plan)

  abbrev pub states_part : List Assignment
  states_part = flat_map piece_sets (as_wires (plan_pieces own_plan) (plan_places own_plan))

  three : (a b d : List Piece) → flat_map piece_sets (a ++ b ++ d) ≡ flat_map piece_sets a ++ (flat_map piece_sets b ++ flat_map piece_sets d)
  three a b d =
      flat_map-append piece_sets (a ++ b) d ∙ ap (λ (l : List Assignment). l ++ flat_map piece_sets d) (flat_map-append piece_sets a b)
      ∙ append_assoc (flat_map piece_sets a) (flat_map piece_sets b) (flat_map piece_sets d)

  -- as they are gone over
  pub sets_order : (with_registers c).sets ≡ c.sets ++ (flat_map piece_sets (instance_pieces own_plan) ++ (groups_part ++ (plan_part ++ done_set ∷ [])))
  sets_order =
      let inst = flat_map piece_sets (instance_pieces own_plan) in
      let whole = flat_map piece_sets (control_pieces c) in
      append_assoc c.sets whole (done_set ∷ [])
      ∙ ap (λ (l : List Assignment). c.sets ++ (l ++ done_set ∷ [])) (three (instance_pieces own_plan) (flat_map (group_pieces own_plan) c.groups) (plan_pieces own_plan))
      ∙ ap (λ (l : List Assignment). c.sets ++ l)
      (append_assoc inst (groups_part ++ plan_part) (done_set ∷ []) ∙ ap (λ (l : List Assignment). inst ++ l) (append_assoc groups_part plan_part (done_set ∷ [])))

  -- and as they are put together
  pub sets_made : ((((c.sets ++ flat_map piece_sets (instance_wires own_plan)) ++ groups_part) ++ states_part)
      ++ ((over_set own_plan ∷ [] ++ all_next_sets (plan_pieces own_plan) (plan_places own_plan)) ++ map thread_enable (threads own_plan))) ++ done_set ∷ [] ≡ (with_states c).sets
  sets_made =
      let inst = flat_map piece_sets (instance_wires own_plan) in
      let whole : ((c.sets ++ inst) ++ groups_part) ++ states_part ≡ c.sets ++ flat_map piece_sets (wires c) =
      append_assoc (c.sets ++ inst) groups_part states_part ∙ append_assoc c.sets inst (groups_part ++ states_part)
      ∙ ap (λ (l : List Assignment). c.sets ++ l)
      (sym (three (instance_wires own_plan) (flat_map (group_pieces own_plan) c.groups) (as_wires (plan_pieces own_plan) (plan_places own_plan)))) in
      ap (λ (l : List Assignment). (l ++ thread_sets own_plan) ++ done_set ∷ []) whole

-- ---- the whole

module _ (c : Component) (old names : List Text) (kept : KeepsTexts old names) (bits : CalComp) where
  abbrev shows_bits : Component → Type 0
  shows_bits d = Shows ComponentHasNumbers component_tree old d bits

  pub bits_cells : (d : Component) → shows_bits d → ShowAll CellHasNumbers cell_tree names d.cells bits.cells.items
  bits_cells d shows = record {
    trees = λ later more. ap (λ (e : Component). e.cells) (shows.tree later (KeepsTexts-trans old names later kept more));
    numbers = λ later more. (shows.numbers later (KeepsTexts-trans old names later kept more)).cells;
  }

  pub bits_sets : (d : Component) → shows_bits d → ShowSets names d.sets bits.sets.items
  bits_sets d shows = record {
    trees = λ later more. ap (λ (e : Component). e.sets) (shows.tree later (KeepsTexts-trans old names later kept more));
    numbers = λ later more. (shows.numbers later (KeepsTexts-trans old names later kept more)).sets;
  }

  pub component_encoded : (cells : Vec CalCell Global) (sets : Vec Assign Global) → shows_bits (with_registers c)
      → ShowAll CellHasNumbers cell_tree names (with_states c).cells cells.items → ShowSets names (with_states c).sets sets.items
      → Shows ComponentHasNumbers component_tree names (with_states c)
      (record { name = bits.name; ins = bits.ins; outs = bits.outs; cells = cells; groups = bits.groups; sets = sets; control = part.Absent })
  component_encoded cells sets shows cells_are sets_are =
      let of : Component → List CellDef → List Assignment → Component = λ d cs ss.
      record { name = d.name; ins = d.ins; outs = d.outs; cells = cs; groups = d.groups; sets = ss; control = Absent } in
      record {
        tree = λ later more.
            ap (λ (d : Component). of d (map (cell_tree later) cells.items) (map (assignment_tree later) sets.items)) (shows.tree later (KeepsTexts-trans old names later kept more))
            ∙ ap₂ (of (with_registers c)) (cells_are.trees later more) (sets_are.trees later more);
        numbers = λ later more.
            let n = shows.numbers later (KeepsTexts-trans old names later kept more) in
            record {
              name = n.name;
              ins = n.ins;
              outs = n.outs;
              cells = cells_are.numbers later more;
              groups = n.groups;
              sets = sets_are.numbers later more;
              control = tt;
            };
      }

-- ---- whether control starts a component is told by its cells

module _ (c : Component) (names : List Text) (bits : CalComp) (shows : Shows ComponentHasNumbers component_tree names (lowered c) bits) where
  cells_count : length (lowered c).cells ≡ length bits.cells.items
  cells_count = sym (ap (λ (d : Component). length d.cells) (shows.tree names (KeepsTexts-refl names))) ∙ length-map bits.cells.items (cell_tree names)

  full_count : is_bare c ≡ false → length c.cells < length bits.cells.items
  full_count full =
      let count = ap (λ (d : Component). length d.cells) (lowered_full c full) in
      let more = length-append c.cells (map piece_cell (control_pieces c)) in
      let some = length-map (control_pieces c) piece_cell in
      let all = cells_count in
      omega (arith, count, more, some, all)

  bare_count : is_bare c ≡ true → length bits.cells.items ≡ length c.cells
  bare_count bare = sym cells_count ∙ sym (ap (λ (d : Component). length d.cells) (lowered_bare c bare))

  pub stays_bare : length bits.cells.items ≡ length c.cells → Shows ComponentHasNumbers component_tree names (encoded c) bits
  stays_bare same = elim (cases_Bool (is_bare c)) [
    | inl bare ↦ let P : Component → Type 0 = λ d. Shows ComponentHasNumbers component_tree names d bits in subst P (sym (lowered_bare c bare) ∙ sym (encoded_bare c bare)) shows
    | inr full ↦ let more = full_count full in absurd (omega (arith, more, same))
  ]

  pub is_full : length bits.cells.items ≢ length c.cells → is_bare c ≡ false
  is_full other = elim (cases_Bool (is_bare c)) [
    | inl bare ↦ absurd (other (bare_count bare))
    | inr full ↦ full
  ]

  pub full_shows : is_bare c ≡ false → Shows ComponentHasNumbers component_tree names (with_registers c) bits
  full_shows full = let P : Component → Type 0 = λ d. Shows ComponentHasNumbers component_tree names d bits in subst P (sym (lowered_full c full)) shows
