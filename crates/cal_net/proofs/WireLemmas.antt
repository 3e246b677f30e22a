-- The three steps of lowering, one after another: the wires keep C1 to C12, the shape of the source, and its runs, and control has become few registers.
use Rattle.std.proofs.Common.{◌≡◌, ℕ, ◌+◌, ◌≤◌, Bool, true, false, List, [], ◌∷◌, ◌++◌, codes, filter, length, Contains, Some, sym, ap, ap₂, subst, ◌∙◌}
use Rattle.std.specs.Prelude.{All, if◌then◌else◌, slice_get}
use Rattle.std.specs.List.{AllZip}
use Rattle.std.proofs.lemmas.Option.{same_Some}
use Rattle.hw_prims.specs.Table.{Pin}
use Rattle.cal_ast.proofs.ListLemmas.{Contains-at}
use Rattle.cal_ast.specs.CalRun.{StoppedBareRun}
use Rattle.cal_ast.specs.Holes.{ActivityRule}
use Rattle.cal_ast.specs.Keeping.{AddsNoStates, KeepsCells, KeepsComponentShape, KeepsRuns, KeepsShape}
use Rattle.cal_ast.specs.Plain.{HasPlainTree}
use Rattle.cal_ast.specs.Ports.{is_bare, with_pin}
use Rattle.cal_ast.specs.Registers.{AreFewRegisters, HasFewRegisters, IsNarrow, is_register}
use Rattle.cal_ast.specs.Rules.{CalRules}
use Rattle.cal_ast.specs.Schedule.{Run}
use Rattle.cal_ast.specs.Tree.{CellDef, Component, Design}
use Rattle.cal_ast.specs.Written.{DesignIsWritten}
use Rattle.cal_runs.proofs.EndLemmas.{runs_are_unique}
use Rattle.cal_group.specs.Expands.{Expands, ExpandsComponent}
use Rattle.cal_group.specs.RemovesGroups.{RemovesGroups}
use Rattle.cal_state.specs.MakesStates.{MakesStates}
use Rattle.cal_net.proofs.FewLemmas.{adds_no_states}
use Rattle.cal_net.proofs.PlainLemmas.{written_groups, written_plain}
use Rattle.cal_net.proofs.ShapeLemmas.{zip_right}
use Rattle.cal_net.specs.Lowers.{KeepsMeaning, LowersControl}

-- ---- one component

-- few registers for the component with groups in place of its invokes are few for the component
few_before : (c e : Component) → ExpandsComponent c e → (added : List CellDef) → AreFewRegisters e added → AreFewRegisters c added
few_before c e is added are = record {
  few = subst (λ (n : ℕ). length (filter is_register added) ≤ 1 + n) is.in_pars are.few;
  narrow = subst (λ (n : ℕ). All (IsNarrow n) (filter is_register added)) is.statements are.narrow;
  no_others = are.no_others;
}

-- its implied ports are those of the component
ports_kept : (name : List ℕ) (c e : Component) (pins pins' : List Pin) → is_bare e ≡ is_bare c → pins' ≡ pins → (if is_bare e then pins' else with_pin name pins') ≡ (if is_bare c then pins else with_pin name pins)
ports_kept name c e pins pins' bare same = ap₂ (λ (b : Bool) (ps : List Pin). if b then ps else with_pin name ps) bare same

shape_kept : (c e h w : Component) → ExpandsComponent c e → KeepsComponentShape e h → KeepsCells h w → KeepsComponentShape c w
shape_kept c e h w is made other = record {
  name = other.name ∙ made.name ∙ is.keeps.name;
  ins = other.ins ∙ made.ins ∙ ports_kept (codes "go") c e c.ins e.ins is.bare is.keeps.ins;
  outs = other.outs ∙ made.outs ∙ ports_kept (codes "done") c e c.outs e.outs is.bare is.keeps.outs;
  added = made.added;
  cells = other.cells ∙ made.cells ∙ ap (λ (cells : List CellDef). cells ++ made.added) is.keeps.cells;
  are_added = made.are_added;
}

shapes_kept : (cs es hs ws : Design) → AllZip ExpandsComponent cs es → KeepsShape es hs → AllZip KeepsCells hs ws → KeepsShape cs ws
shapes_kept [] [] [] [] one made other = tt
shapes_kept [] [] [] (w ∷ ws) one made other = absurd other
shapes_kept [] [] (h ∷ hs) ws one made other = absurd made
shapes_kept [] (e ∷ es) hs ws one made other = absurd one
shapes_kept (c ∷ cs) [] hs ws one made other = absurd one
shapes_kept (c ∷ cs) (e ∷ es) [] ws one made other = absurd made
shapes_kept (c ∷ cs) (e ∷ es) (h ∷ hs) [] one made other = absurd other
shapes_kept (c ∷ cs) (e ∷ es) (h ∷ hs) (w ∷ ws) one made other = (shape_kept c e h w one.0 made.0 other.0, shapes_kept cs es hs ws one.1 made.1 other.1)

-- ---- the three steps

module _ (source expanded holes wires : Design) (acts : List ActivityRule) (expands : Expands source expanded) (states : MakesStates expanded holes acts) (removes : RemovesGroups holes acts wires) where
  -- a component of the source, what it is after each step, and that these keep it
  record Steps (n : ℕ) (c w : Component) : Type 0 where
    e : Component
    at_e : slice_get expanded n ≡ Some e
    expands_c : ExpandsComponent c e
    h : Component
    at_h : slice_get holes n ≡ Some h
    keeps_cells : KeepsCells h w

  steps : (n : ℕ) (c w : Component) → slice_get source n ≡ Some c → slice_get wires n ≡ Some w → Steps n c w
  steps n c w at at_wires =
      let one = zip_right ExpandsComponent source expanded n c expands.components at in
      let two = zip_right KeepsComponentShape expanded holes n one.0 states.replaces.shape one.1 in
      let three = zip_right KeepsCells holes wires n two.0 removes.components two.1 in
      record {
        e = one.0;
        at_e = one.1;
        expands_c = one.2;
        h = two.0;
        at_h = two.1;
        keeps_cells = subst (KeepsCells two.0) (same_Some three.0 w (sym three.1 ∙ at_wires)) three.2;
      }

  shape : KeepsShape source wires
  shape = shapes_kept source expanded holes wires expands.components states.replaces.shape removes.components

  runs : (n : ℕ) (c w : Component) → slice_get source n ≡ Some c → slice_get wires n ≡ Some w → KeepsRuns (StoppedBareRun wires w) (Run source c)
  runs n c w at at_wires asked inputs loads height trace stop run =
      let s = steps n c w at at_wires in
      expands.runs n c s.e at s.at_e asked inputs loads height trace stop
      (states.replaces.runs n s.e s.h s.at_e s.at_h asked inputs loads height trace stop (removes.runs n s.h w s.at_h at_wires asked inputs loads height trace stop run))

  few_registers : (n : ℕ) (c w : Component) → slice_get source n ≡ Some c → slice_get wires n ≡ Some w → is_bare c ≡ false → HasFewRegisters c w
  few_registers n c w at at_wires full =
      let s = steps n c w at at_wires in
      let few = states.registers n s.e s.h s.at_e s.at_h (s.expands_c.bare ∙ full) in
      record {
        added = few.added;
        cells = s.keeps_cells.cells ∙ few.cells ∙ ap (λ (cells : List CellDef). cells ++ few.added) s.expands_c.keeps.cells;
        are = few_before c s.e s.expands_c few.added few.are;
      }

  no_states : (n : ℕ) (c w : Component) → slice_get source n ≡ Some c → slice_get wires n ≡ Some w → is_bare c ≡ true → AddsNoStates c w
  no_states n c w at at_wires bare =
      let s = steps n c w at at_wires in
      let other = zip_right KeepsComponentShape source wires n c shape at in
      let kept : KeepsComponentShape c w = subst (KeepsComponentShape c) (same_Some other.0 w (sym other.1 ∙ at_wires)) other.2 in
      adds_no_states c w kept (s.keeps_cells.cells ∙ states.bare_cells n s.e s.h s.at_e s.at_h (s.expands_c.bare ∙ bare) ∙ s.expands_c.keeps.cells)

  module _ (rules : CalRules source) (written : DesignIsWritten source) where
    keeps_meaning : (n : ℕ) (c w : Component) → slice_get source n ≡ Some c → slice_get wires n ≡ Some w → KeepsMeaning source wires c w
    keeps_meaning n c w at at_wires = record {
      runs = runs n c w at at_wires;
      agree = λ asked inputs loads a b one other.
          runs_are_unique source c (written_plain source written) rules (Contains-at source n c at) asked inputs loads a b
          (runs n c w at at_wires asked inputs loads a.height a.trace a.stop one) other;
    }

    pub wires_lower_control : LowersControl source wires
    wires_lower_control = record { wired = removes.wired; shape = shape; registers = few_registers; no_states = no_states; means = keeps_meaning }

  -- names of the grammar have no dots, nor have those of registers and wires
  pub wires_are_plain : DesignIsWritten source → HasPlainTree wires
  wires_are_plain written = removes.plain (states.replaces.plain (expands.plain_groups (written_groups source written)))

  pub wires_are_written : DesignIsWritten source → DesignIsWritten wires
  wires_are_written written = removes.written (states.written (expands.written written)) (states.written_rules (expands.written written))
