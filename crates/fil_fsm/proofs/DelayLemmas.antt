-- Each register of a chain shows what the bit before it was one row before, so bit i shows what bit 0 was i rows before.
use Rattle.std.proofs.Common.{◌≡◌, ◌≢◌, ℕ, zero, suc, ◌+◌, ◌<◌, List, [], ◌∷◌, Bool, true, false, cond, ◌&&◌, if◌then◌else◌, Some, All, Contains, slice_get, slice_index, map, codes, refl, sym, ap, ◌∙◌, subst, inl, inr, add-zero, add-one, lit<, arith}
use Rattle.std.specs.List.{filter}
use Rattle.std.specs.Str.{bytes_eq}
use Rattle.std.proofs.lemmas.Bool.{cases_lt}
use Rattle.std.proofs.lemmas.List.Elements.{All-head, All-tail}
use Rattle.std.proofs.lemmas.Slice.Eq.{bytes_eq-Decides}
use Rattle.hw_names.proofs.NameLemmas.{HasNoDot-from_test}
use Rattle.hw_names.specs.Name.{Text, Path, full_name, port_at, IsPlain, AreDistinct}
use Rattle.hw_prims.specs.Meaning.{opening_state, output_values, next_state}
use Rattle.hw_prims.specs.Row.{Row, Trace}
use Rattle.hw_prims.specs.State.{State, out_of}
use Rattle.hw_prims.specs.Table.{inputs_of, outputs_of, pin_names}
use Rattle.hw_prims.specs.declared.prim.Primitive.TheVariants.{StdReg}
use Rattle.net_core.specs.Circuit.{settled, states_before}
use Rattle.net_core.specs.Guard.{guard_holds, source_value}
use Rattle.cal_ast.proofs.LocalLemmas.{drives_are_local}
use Rattle.cal_ast.proofs.SideLemmas.{cell_input_destination}
use Rattle.cal_ast.specs.CalRun.{BareRun, look}
use Rattle.cal_ast.specs.Instances.{component_at, port_name}
use Rattle.cal_ast.specs.Laws.{local_values}
use Rattle.cal_ast.specs.Plain.{IsPlainPort}
use Rattle.cal_ast.specs.Ports.{made_inputs, primitive_in, part_in, cell_inputs}
use Rattle.cal_ast.specs.Tree.{PortName, port_of, Assignment, Component, Design}
use Rattle.fil_fsm.specs.Chain.{bit_of, takes, chain_sets, chain_bits}
use Rattle.fil_fsm.specs.Delays.{IsDelayed, HasChain, drives_cell, ChainsDelay}

AreDistinct-tail : (name : Text) (names : List Text) → AreDistinct (name ∷ names) → AreDistinct names
AreDistinct-tail name names distinct i j d below within = distinct (suc i) (suc j) d (omega arith) (omega arith)

AreDistinct-head : (name : Text) (names : List Text) → AreDistinct (name ∷ names) → All (λ other. name ≢ other) names
AreDistinct-head name names distinct k d within = distinct 0 (suc k) d (omega arith) (omega arith)

-- ---- what drives a register

-- a port of a cell is driven by the assignments of that cell alone
pub local_values-filter : (see : PortName → ℕ) (cell pin : Text) (sets : List Assignment) → local_values see (port_of cell pin) (filter (drives_cell cell) sets) ≡ local_values see (port_of cell pin) sets
local_values-filter see cell pin [] = refl
local_values-filter see cell pin (a ∷ sets) = by (drives_cell cell a) refl (local_values-filter see cell pin sets)
  where
    by : (b : Bool) → drives_cell cell a ≡ b → local_values see (port_of cell pin) (filter (drives_cell cell) sets) ≡ local_values see (port_of cell pin) sets
        → local_values see (port_of cell pin) (cond b (a ∷ filter (drives_cell cell) sets) (filter (drives_cell cell) sets)) ≡ local_values see (port_of cell pin) (a ∷ sets)
    by true e rest = ap (λ (values : List ℕ). if (drives_cell cell a && bytes_eq a.dst.pin pin) && guard_holds see a.guard then source_value see a.src ∷ values else values) rest
    by false e rest = rw e rest

same_name : (name : Text) → bytes_eq name name ≡ true
same_name name = (bytes_eq-Decides name name).1 refl

other_name : (name other : Text) → name ≢ other → bytes_eq name other ≡ false
other_name name other apart = by (bytes_eq name other) refl
  where
    by : (b : Bool) → bytes_eq name other ≡ b → bytes_eq name other ≡ false
    by true e = absurd (apart ((bytes_eq-Decides name other).0 e))
    by false e = e

-- a cell that is no register of the chain is not driven by it
others_drive_nothing : (cell : Text) (bit : PortName) (registers : List Text) → All (λ name. cell ≢ name) registers → filter (drives_cell cell) (chain_sets bit registers) ≡ []
others_drive_nothing cell bit [] apart = refl
others_drive_nothing cell bit (name ∷ registers) apart =
    let not_this : bytes_eq name cell ≡ false = other_name name cell (λ e. All-head (λ name. cell ≢ name) name registers apart (sym e)) in
    rw not_this (others_drive_nothing cell (bit_of name) registers (All-tail (λ name. cell ≢ name) name registers apart))

-- the first register of a chain is driven by the assignments that it takes its bit by
first_driven : (bit : PortName) (name : Text) (registers : List Text) → AreDistinct (name ∷ registers) → filter (drives_cell name) (chain_sets bit (name ∷ registers)) ≡ takes bit name
first_driven bit name registers distinct =
    let same = same_name name in
    let rest = others_drive_nothing name (bit_of name) registers (AreDistinct-head name registers distinct) in
    rw (same, rest) refl

-- another cell is driven by what follows the first register
rest_driven : (bit : PortName) (name : Text) (registers : List Text) (cell : Text) → name ≢ cell → filter (drives_cell cell) (chain_sets bit (name ∷ registers)) ≡ filter (drives_cell cell) (chain_sets (bit_of name) registers)
rest_driven bit name registers cell apart = let not_this = other_name name cell apart in rw not_this refl

takes_its_bit : (see : PortName → ℕ) (bit : PortName) (name : Text) → local_values see (port_of name (codes "in")) (takes bit name) ≡ see bit ∷ []
takes_its_bit see bit name = let same = same_name name in rw same refl

is_always_written : (see : PortName → ℕ) (bit : PortName) (name : Text) → local_values see (port_of name (codes "write_en")) (takes bit name) ≡ 1 ∷ []
is_always_written see bit name = let same = same_name name in rw same refl

plain_in : IsPlain (codes "in")
plain_in = (λ e. cc, HasNoDot-from_test (codes "in") refl)

plain_write_en : IsPlain (codes "write_en")
plain_write_en = (λ e. cc, HasNoDot-from_test (codes "write_en") refl)

-- ---- one register

has_in : Contains (pin_names (inputs_of (StdReg 1))) (codes "in")
unfolding inputs_of
has_in = (0, lit< tt, refl)

has_write_en : Contains (pin_names (inputs_of (StdReg 1))) (codes "write_en")
unfolding inputs_of
has_write_en = (1, lit< tt, refl)

-- what the register shows, by its state; at first nothing, and then what it was given while write_en was 1
shown_by : (row : Row) (at : Text → Text) (state : State) (ins : List ℕ) → map (λ pin. row (at pin)) (pin_names (outputs_of (StdReg 1))) ≡ output_values (StdReg 1) state ins → row (at (codes "out")) ≡ out_of state
unfolding outputs_of output_values
shown_by row at state ins e = ap (λ values. slice_index values 0) e

opens_at_zero : (words : List ℕ) → out_of (opening_state (StdReg 1) words) ≡ 0
unfolding opening_state
opens_at_zero words = refl

keeps_its_input : (row : Row) (at : Text → Text) (state : State) → row (at (codes "write_en")) ≡ 1 → out_of (next_state (StdReg 1) state (map (λ pin. row (at pin)) (pin_names (inputs_of (StdReg 1))))) ≡ row (at (codes "in"))
unfolding inputs_of next_state
keeps_its_input row at state written = rw written refl

-- the register takes this bit in every row, by two assignments that alone drive it
record IsLink (c : Component) (bit : PortName) (name : Text) : Type 0 where
  made : primitive_in c name ≡ Some (StdReg 1)
  driven : filter (drives_cell name) c.sets ≡ takes bit name
  plain : IsPlain name

IsLink-first : (c : Component) (bit : PortName) (name : Text) (registers : List Text) → HasChain c bit (name ∷ registers) → IsPlain name → IsLink c bit name
IsLink-first c bit name registers chain plain = record {
  made = All-head (λ other. primitive_in c other ≡ Some (StdReg 1)) name registers chain.made;
  driven = All-head (λ other. filter (drives_cell other) c.sets ≡ filter (drives_cell other) (chain_sets bit (name ∷ registers))) name registers chain.driven ∙ first_driven bit name registers chain.distinct;
  plain = plain;
}

-- after its first register a chain goes on from that register's bit
HasChain-rest : (c : Component) (bit : PortName) (name : Text) (registers : List Text) → HasChain c bit (name ∷ registers) → HasChain c (bit_of name) registers
HasChain-rest c bit name registers chain = record {
  made = All-tail (λ other. primitive_in c other ≡ Some (StdReg 1)) name registers chain.made;
  driven = λ k d within.
      All-tail (λ other. filter (drives_cell other) c.sets ≡ filter (drives_cell other) (chain_sets bit (name ∷ registers))) name registers chain.driven k d within
      ∙ rest_driven bit name registers _ (AreDistinct-head name registers chain.distinct k d within);
  distinct = AreDistinct-tail name registers chain.distinct;
}

module _ (design : Design) (top : Component) (asked : ℕ) (inputs : Trace) (loads : Text → List ℕ) (height : ℕ) (trace : Trace) (run : BareRun design top asked inputs loads height trace) (path : Path) (c : Component) (here : component_at design top path ≡ Some c) (plain : All (λ (a : Assignment). IsPlainPort a.dst) c.sets) where
  -- an input of the register has the one value that its two assignments give it
  input_is : (bit : PortName) (name pin : Text) (value : Row → ℕ) → IsLink c bit name → IsPlain pin → Contains (pin_names (inputs_of (StdReg 1))) pin
      → ((row : Row) → local_values (look path row) (port_of name pin) (takes bit name) ≡ value row ∷ []) → (t : ℕ) → t < height → trace t (port_at path (Some name) pin) ≡ value (trace t)
  input_is bit name pin value link plain_pin has gives t within =
      let known : Contains (pin_names (cell_inputs design c name)) pin = subst (λ prim. Contains (pin_names (made_inputs prim (part_in design c name))) pin) (sym link.made) has in
      let sink = cell_input_destination design c name pin known in
      let see = look path (trace t) in
      let local = drives_are_local path (trace t) (port_of name pin) c.sets (link.plain, plain_pin) plain in
      let alone = sym (local_values-filter see name pin c.sets) ∙ ap (local_values see (port_of name pin)) link.driven ∙ gives (trace t) in
      (run.rows t within).driven (port_at path (Some name) pin) _ (inl (record { path = path; c = c; at = here; cell = Some name; pin = pin; sink = sink; named = refl; drives = refl }))
      ∙ ap settled (local ∙ alone)

  register_shows : (bit : PortName) (name : Text) → IsLink c bit name → (t : ℕ) → t < height → trace t (port_at path (Some name) (codes "out")) ≡ out_of (states_before t trace loads (full_name path name) (StdReg 1))
  register_shows bit name link t within =
      shown_by (trace t) _ _ _ ((run.rows t within).computed (full_name path name) (StdReg 1) (record { path = path; c = c; at = here; cell = name; made = link.made; named = refl }))

  register_follows : (bit : PortName) (name : Text) → IsLink c bit name → (t : ℕ) → suc t < height → trace (suc t) (port_at path (Some name) (codes "out")) ≡ trace t (port_name path bit)
  register_follows bit name link t within =
      let before : t < height = omega arith in
      let state = states_before t trace loads (full_name path name) (StdReg 1) in
      let given = input_is bit name (codes "in") (λ row. look path row bit) link plain_in has_in (λ row. takes_its_bit (look path row) bit name) t before in
      let written = input_is bit name (codes "write_en") (λ row. 1) link plain_write_en has_write_en (λ row. is_always_written (look path row) bit name) t before in
      register_shows bit name link (suc t) within ∙ keeps_its_input (trace t) _ state written ∙ given

  register_delays : (bit : PortName) (name : Text) → IsLink c bit name → IsDelayed trace height (port_name path bit) 1 (port_name path (bit_of name))
  register_delays bit name link = record {
    opens = λ t within early. let first : t ≡ 0 = omega arith in rw first (register_shows bit name link 0 (omega arith) ∙ opens_at_zero (loads (full_name path name)));
    follows = λ t within. rw add-one (register_follows bit name link t (omega arith));
  }

  -- one more register is one more row
  delays_more : (source middle port : Text) (i : ℕ) → IsDelayed trace height source 1 middle → IsDelayed trace height middle i port → IsDelayed trace height source (suc i) port
  delays_more source middle port i first rest = record { opens = early; follows = later }
    where
      early : (t : ℕ) → t < height → t < suc i → trace t port ≡ 0
      early t within lt =
          elim (cases_lt t i) as (λ w. trace t port ≡ 0) [
            | inl below ↦ rest.opens t within below
            | inr last ↦
                let same : t ≡ 0 + i = omega arith in
                let at : 0 + i < height = omega arith in
                rw same (rest.follows 0 at ∙ first.opens 0 (omega arith) (omega arith))
          ]

      later : (t : ℕ) → t + suc i < height → trace (t + suc i) port ≡ trace t source
      later t within =
          let same : t + suc i ≡ t + 1 + i = omega arith in
          rw same (rest.follows (t + 1) (omega arith) ∙ first.follows t (omega arith))

  chain_delays : (go : PortName) (registers : List Text) → HasChain c go registers → All IsPlain registers → (i : ℕ) (bit : PortName) → slice_get (chain_bits go registers) i ≡ Some bit
      → IsDelayed trace height (port_name path go) i (port_name path bit)
  chain_delays go registers chain plain_names zero bit at =
      let same : go ≡ bit = cc in
      subst (λ p. IsDelayed trace height (port_name path go) 0 (port_name path p)) same (record { opens = λ t within early. absurd (omega arith); follows = λ t within. rw add-zero refl })
  chain_delays go [] chain plain_names (suc i) bit at = absurd cc
  chain_delays go (name ∷ registers) chain plain_names (suc i) bit at =
      delays_more (port_name path go) (port_name path (bit_of name)) (port_name path bit) i
      (register_delays go name (IsLink-first c go name registers chain (All-head IsPlain name registers plain_names)))
      (chain_delays (bit_of name) registers (HasChain-rest c go name registers chain) (All-tail IsPlain name registers plain_names) i bit at)

pub chains_delay : ChainsDelay
chains_delay design top asked inputs loads height trace run path c here go registers chain plain_names plain =
    chain_delays design top asked inputs loads height trace run path c here plain go registers chain plain_names
