-- What is added to a component are wires, and few registers.
use Rattle.std.proofs.Common.{◌≡◌, ◌⊎◌, inl, inr, ℕ, ◌+◌, ◌-◌, ◌^◌, ◌≤◌, List, [], ◌∷◌, ◌++◌, map, length, cond, Bool, true, false, Option, Some, None, refl, sym, ap, ap₂, subst, ◌∙◌, arith, append_assoc}
use Rattle.std.specs.Prelude.{All, Contains, filter, flat_map, slice_get, bytes_eq, codes, option_map, if◌then◌else◌}
use Rattle.std.proofs.lemmas.Bool.{cases_Bool, both_ways, cond-true, cond-false}
use Rattle.std.proofs.lemmas.List.{length-map}
use Rattle.std.proofs.lemmas.List.Elements.{All-nil, All-cons, Contains-append_cases, filter-append}
use Rattle.std.proofs.lemmas.Option.{slice_get-map}
use Rattle.hw_prims.specs.Meaning.{is_stateless}
use Rattle.hw_prims.specs.Memory.{keeps_words}
use Rattle.hw_prims.specs.declared.prim.Primitive.{Primitive}
use Rattle.hw_prims.specs.declared.prim.Primitive.TheVariants.{StdWire}
use Rattle.cal_ast.proofs.ListLemmas.{Contains-from_map}
use Rattle.cal_ast.specs.Holes.{ActivityRule}
use Rattle.cal_ast.specs.Items.{control_statements, items_before_control}
use Rattle.cal_ast.specs.Keeping.{IsStatelessCell}
use Rattle.cal_ast.specs.Plan.{Plan, plan_of}
use Rattle.cal_ast.specs.Ports.{is_bare}
use Rattle.cal_ast.specs.Tree.{CellDef, DoneLine, GroupDef, Absent, Component, Design}
use Rattle.cal_walk.specs.Left.{is_over}
use Rattle.cal_lower.specs.inside.Lowered.{done_wire, group_pieces, plan_pieces}
use Rattle.cal_lower.specs.inside.Parts.{part_pieces}
use Rattle.cal_lower.specs.inside.Pieces.{Kind, Wire, Register, Piece, made_by, piece_cell, is_set, start_name}
use Rattle.cal_lower.proofs.ListLemmas.{Each, each_append, each_at, each_flat_map, each_from, each_map}
use Rattle.cal_lower.proofs.LoweredLemmas.{prim_for, piece_made}
use Rattle.cal_state.specs.inside.Encoded.{IsStatesOf, encoded, instance_wires, wires, with_states}
use Rattle.cal_state.specs.inside.Laws.{StatesAreFew}
use Rattle.cal_ast.specs.Registers.{HasFewRegisters, IsNarrow, is_register, parallel}
use Rattle.cal_state.specs.inside.States.{as_wire, as_wires, thread_cell, width_of}
use Rattle.cal_state.specs.inside.Threads.{Place, NoState, IsIn, Thread, first_state, places, plan_places, thread_of, threads}
use Rattle.cal_state.proofs.CountLemmas.{EachFew, each_thread_few, few_section_threads}
use Rattle.cal_state.proofs.PlaceLemmas.{Fits, Aligned, aligned}
use Rattle.cal_state.proofs.WidthLemmas.{narrow_enough}

-- ---- wires

abbrev pub IsWire : Piece → Type 0
IsWire p = p.kind ≡ Wire

wire_as : (p : Piece) (place : Place) → Fits p place → IsWire (as_wire p place)
wire_as p NoState fits = fits
wire_as p (IsIn token state) fits = refl

pub wires_as : (ps : List Piece) (xs : List Place) → Aligned ps xs → Each IsWire (as_wires ps xs)
wires_as [] [] fit = tt
wires_as [] (x ∷ xs) fit = absurd fit
wires_as (p ∷ ps) [] fit = absurd fit
wires_as (p ∷ ps) (x ∷ xs) fit = (wire_as p x fit.0, wires_as ps xs fit.1)

-- the pieces of a plan have their places
pub plan_aligned : (plan : Plan) → Aligned (plan_pieces plan) (plan_places plan)
plan_aligned plan = by (is_over plan) (aligned (thread_of 0 plan) first_state 0 plan (is_set start_name))
  where
    by : (b : Bool) → Aligned (part_pieces 0 plan (is_set start_name)) (places (thread_of 0 plan) first_state 0 plan)
        → Aligned (if b then [] else part_pieces 0 plan (is_set start_name)) (if b then [] else places (thread_of 0 plan) first_state 0 plan)
    by true fit = tt
    by false fit = fit

pub all_wires : (c : Component) → Each IsWire (wires c)
all_wires c =
    let groups : List Piece = flat_map (group_pieces (plan_of c)) c.groups in
    each_append IsWire (instance_wires (plan_of c)) (groups ++ as_wires (plan_pieces (plan_of c)) (plan_places (plan_of c))) (refl, (refl, (refl, tt)))
    (each_append IsWire groups (as_wires (plan_pieces (plan_of c)) (plan_places (plan_of c)))
    (each_flat_map IsWire (group_pieces (plan_of c)) c.groups
    (each_from (λ (g : GroupDef). Each IsWire (group_pieces (plan_of c) g)) c.groups (λ g has. (refl, each_map IsWire done_wire g.dones (each_from (λ (d : DoneLine). IsWire (done_wire d)) g.dones (λ d is. refl))))))
    (wires_as (plan_pieces (plan_of c)) (plan_places (plan_of c)) (plan_aligned (plan_of c))))

-- a wire is no register
wire_made : (kind : Kind) → kind ≡ Wire → bytes_eq (made_by kind) (codes "std_reg") ≡ false
wire_made Wire is = refl
wire_made Register is = absurd (cc)

no_registers : (ps : List Piece) → Each IsWire ps → filter is_register (map piece_cell ps) ≡ []
no_registers [] each = refl
no_registers (p ∷ ps) each =
    cond-false (is_register (piece_cell p)) (piece_cell p ∷ filter is_register (map piece_cell ps)) (filter is_register (map piece_cell ps)) (wire_made p.kind each.0)
    ∙ no_registers ps each.1

stateless_wire : is_stateless (StdWire 1) ≡ true
unfolding is_stateless keeps_words
stateless_wire = refl

wire_stateless : (p : Piece) → IsWire p → IsStatelessCell (piece_cell p)
wire_stateless p is = (prim_for p.kind, piece_made p, ap (λ k. is_stateless (prim_for k)) is ∙ stateless_wire)

-- ---- registers

all_registers : (ts : List Thread) → filter is_register (map thread_cell ts) ≡ map thread_cell ts
all_registers [] = refl
all_registers (t ∷ ts) = ap (λ cells. thread_cell t ∷ cells) (all_registers ts)

narrow_cells : (statements : ℕ) (ts : List Thread) → EachFew statements ts → All (IsNarrow statements) (map thread_cell ts)
narrow_cells statements [] few = All-nil (IsNarrow statements)
narrow_cells statements (t ∷ ts) few =
    All-cons (IsNarrow statements) (thread_cell t) (map thread_cell ts) (record { width = width_of t; params = refl; narrow = narrow_enough t statements few.0 })
    (narrow_cells statements ts few.1)

register_made : (t : Thread) → is_register (thread_cell t) ≡ true
register_made t = refl

-- ---- the component

module _ (c : Component) where
  abbrev added : List CellDef
  added = map piece_cell (wires c) ++ map thread_cell (threads (plan_of c))

  registers_are : filter is_register added ≡ map thread_cell (threads (plan_of c))
  registers_are =
      filter-append is_register (map piece_cell (wires c)) (map thread_cell (threads (plan_of c)))
      ∙ ap₂ (λ (a b : List CellDef). a ++ b) (no_registers (wires c) (all_wires c)) (all_registers (threads (plan_of c)))

  no_other : (cell : CellDef) → Contains added cell → is_register cell ≡ false → IsStatelessCell cell
  no_other cell has not = elim (Contains-append_cases (map piece_cell (wires c)) (map thread_cell (threads (plan_of c))) cell has) [
    | inl wire ↦
        let p = Contains-from_map piece_cell (wires c) cell wire in
        subst IsStatelessCell p.2 (wire_stateless p.0 (each_at IsWire (wires c) p.0 (all_wires c) p.1))
    | inr register ↦
        let t = Contains-from_map thread_cell (threads (plan_of c)) cell register in
        absurd (both_ways (is_register cell) not (ap is_register (sym t.2) ∙ register_made t.0))
  ]

  few_registers : HasFewRegisters c (with_states c)
  few_registers = record {
    added = added;
    cells = append_assoc' c.cells;
    are = record {
      few =
          let F : List CellDef → Type 0 = λ cells. length cells ≤ 1 + parallel (control_statements c.control) in
          let few = few_section_threads (length (items_before_control c)) c.control in
          let mapped = length-map (threads (plan_of c)) thread_cell in
          subst F (sym registers_are) (omega (arith, few, mapped));
      narrow =
          subst (All (IsNarrow (length (control_statements c.control)))) (sym registers_are)
          (narrow_cells (length (control_statements c.control)) (threads (plan_of c)) (each_thread_few (length (items_before_control c)) c.control));
      no_others = no_other;
    };
  }
    where
      append_assoc' : (cells : List CellDef) → cells ++ map piece_cell (wires c) ++ map thread_cell (threads (plan_of c)) ≡ cells ++ added
      append_assoc' cells = append_assoc cells (map piece_cell (wires c)) (map thread_cell (threads (plan_of c)))

pub states_are_few : StatesAreFew
states_are_few source answer rules n c d is at there full =
    let one : Some d ≡ Some (encoded c) = sym there ∙ ap (λ (a : Design). slice_get a n) is.design ∙ slice_get-map encoded source n ∙ ap (option_map encoded) at in
    let same : d ≡ encoded c = cc in
    let whole : encoded c ≡ with_states c = cond-false (is_bare c) (record c { control = Absent }) (with_states c) full in
    subst (HasFewRegisters c) (sym (same ∙ whole)) (few_registers c)
