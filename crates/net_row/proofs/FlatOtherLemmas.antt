-- The cells that keep their states by themselves: made one after another, and with the same pins after a row or a load.
use Rattle.std.proofs.Common.{◌≡◌, ℕ, ◌+◌, ◌<◌, ◌≤◌, List, [], ◌∷◌, ◌++◌, Some, length, get_or, take, refl, sym, ap, ◌∙◌, arith, subst, inl, inr}
use Rattle.std.specs.Prelude.{slice_get, All}
use Rattle.std.proofs.lemmas.Bool.{cases_lt}
use Rattle.std.proofs.lemmas.List.{length-map, length_push, take_more, take_all}
use Rattle.std.proofs.lemmas.Option.{same_Some, slice_get_within, slice_get-get_or, get_or_from_slice_get}
use Rattle.hw_prims.specs.Table.{Pin, inputs_of, outputs_of, pin_widths}
use Rattle.net_core.specs.Netlist.{Netlist}
use Rattle.net_core.specs.Rules.{IsValid}
use Rattle.net_sim.proofs.GiverLemmas.{at_some}
use Rattle.net_sim.proofs.GrowthLemmas.{slice_get-last}
use Rattle.net_sim.proofs.PortLemmas.{input_widths, output_width}
use Rattle.net_sim.proofs.ValidLemmas.{slice_get-append_left}
use Rattle.net_sim.specs.Layout.{port_widths, first_port, AreCellPorts}
use Rattle.net_sim.specs.declared.cells.CellPorts.{CellPorts}
use Rattle.net_steps.specs.Edge.{AreSteppedOthers}
use Rattle.net_steps.specs.Operations.{IsBelow}
use Rattle.net_steps.specs.Others.{IsNarrow, AreNarrow, AreCounted}
use Rattle.net_steps.specs.declared.choice.Choice.{Choice}
use Rattle.net_steps.specs.declared.operation.Operation.{Operation}
use Rattle.net_steps.specs.declared.operation.Operation.TheVariants.{Output}
use Rattle.net_steps.specs.declared.other.Other.{Other as OtherCell}
use Rattle.net_row.proofs.FlatKindLemmas.{other_number, by_itself, cell_of_number, few_inputs}
use Rattle.net_row.proofs.RowLemmas.{kind_is, in_range}
use Rattle.net_row.specs.Flats.{IsOther, AreOthers, IsLike, IsLoadedOther}
use Rattle.net_row.specs.Programs.{AreFit, IsFit, IsSound}
use Rattle.net_row.specs.Kinds.{AreOfOthers, kinds_of, kind_after, kept_in, others_in, others_for}
use Rattle.net_row.specs.Rows.{AreOthersOf, IsOtherOf}
use Rattle.net_row.specs.declared.kinds.Kind.{Kind}
use Rattle.net_row.specs.declared.kinds.Kind.TheVariants.{Other}
use Rattle.net_row.specs.Program.{steps_in}
use Rattle.net_row.specs.declared.program.Program.{Program}
use Rattle.net_row.specs.declared.programs.Programs.{Programs}

-- ---- one after another

-- those of the first cells
pub record AreOfFirst {A : Type 0} (Is : CellPorts → A → Type 0) (cells : List CellPorts) (count : ℕ) (items : List A) : Type 0 where
  pub all : length items ≡ others_in (take count cells)
  pub each : (k number : ℕ) (cell : CellPorts) → k < count → slice_get cells k ≡ Some cell → slice_get (kinds_of cells) k ≡ Some (Other number) → (item : A) × (slice_get items number ≡ Some item) × Is cell item

pub first_none : {A : Type 0} (Is : CellPorts → A → Type 0) (cells : List CellPorts) → AreOfFirst Is cells 0 []
first_none Is cells = record { all = refl; each = λ k number cell lt. absurd (omega (arith, lt)) }

pub first_all : {A : Type 0} (Is : CellPorts → A → Type 0) (cells : List CellPorts) (count : ℕ) (items : List A) → length cells ≤ count → AreOfFirst Is cells count items → AreOfOthers Is cells items
first_all Is cells count items past so_far = record {
  all = so_far.all ∙ ap others_in (take_all count cells past);
  each = λ k number cell at kind. let lt = slice_get_within cells k cell at in so_far.each k number cell (omega (arith, lt, past)) at kind;
}

others_in-snoc : (cells : List CellPorts) (c : CellPorts) → others_in (cells ++ c ∷ []) ≡ others_in cells + others_for c.prim
others_in-snoc [] c = omega arith
others_in-snoc (d ∷ cells) c = omega (arith, others_in-snoc cells c)

module _ {A : Type 0} (Is : CellPorts → A → Type 0) (cells : List CellPorts) (number : ℕ) (items : List A) (so_far : AreOfFirst Is cells number items) (c : CellPorts) (kind : Kind) (at_c : slice_get cells number ≡ Some c) (at_kind : slice_get (kinds_of cells) number ≡ Some kind) where
  kind_here : kind ≡ kind_after (kept_in (take number cells)) (others_in (take number cells)) c.prim
  kind_here = kind_is cells number c kind at_c at_kind

  one_more : others_in (take (number + 1) cells) ≡ others_in (take number cells) + others_for c.prim
  one_more = ap others_in (take_more cells number c (slice_get_within cells number c at_c)) ∙ ap (λ (d : CellPorts). others_in (take number cells ++ d ∷ [])) (get_or_from_slice_get cells number c c at_c) ∙ others_in-snoc (take number cells) c

  -- that of a cell that is counted goes last
  pub first_more : (m : ℕ) (item : A) → kind ≡ Other m → Is c item → AreOfFirst Is cells (number + 1) (items ++ item ∷ [])
  first_more m item e is = record {
    all = let len = length_push items item in omega (arith, len, so_far.all, one_more, mine.1);
    each = λ k n cell lt at at_n. elim (cases_lt k number) [
      | inl before ↦ let was = so_far.each k n cell before at at_n in (was.0, slice_get-append_left items (item ∷ []) n was.0 was.1, was.2)
      | inr past ↦
          let here : k ≡ number = omega (arith, lt, past) in
          let same_cell : c ≡ cell = same_Some c cell (sym at_c ∙ ap (slice_get cells) (sym here) ∙ at) in
          let same_kind : kind ≡ Other n = same_Some kind (Other n) (sym at_kind ∙ ap (slice_get (kinds_of cells)) (sym here) ∙ at_n) in
          let there : n ≡ length items = (other_number (kept_in (take number cells)) (others_in (take number cells)) n c.prim (sym kind_here ∙ same_kind)).0 ∙ sym so_far.all in
          (item, ap (slice_get (items ++ item ∷ [])) there ∙ slice_get-last items item, subst (λ (d : CellPorts). Is d item) same_cell is)
    ];
  }
    where
      mine : (m ≡ others_in (take number cells)) × (others_for c.prim ≡ 1)
      mine = other_number (kept_in (take number cells)) (others_in (take number cells)) m c.prim (sym kind_here ∙ e)

  -- and another is passed over
  pub first_skip : ((m : ℕ) → kind ≡ Other m → ⊥) → AreOfFirst Is cells (number + 1) items
  first_skip none = record {
    all = omega (arith, so_far.all, one_more, uncounted);
    each = λ k n cell lt at at_n. elim (cases_lt k number) [
      | inl before ↦ so_far.each k n cell before at at_n
      | inr past ↦
          let here : k ≡ number = omega (arith, lt, past) in
          absurd (none n (same_Some kind (Other n) (sym at_kind ∙ ap (slice_get (kinds_of cells)) (sym here) ∙ at_n)))
    ];
  }
    where
      uncounted : others_for c.prim ≡ 0
      uncounted = elim (by_itself c.prim) [
        | inl is ↦ absurd (none (others_in (take number cells)) (kind_here ∙ is.1 (kept_in (take number cells)) (others_in (take number cells))))
        | inr not ↦ not
      ]

-- ---- all of them

module _ (cells : List CellPorts) (others : List OtherCell) (are : AreOthers cells others) where
  -- each is of a cell
  pub record IsOfCell (other : OtherCell) : Type 0 where
    pub index : ℕ
    pub cell : CellPorts
    pub at : slice_get cells index ≡ Some cell
    pub is : IsOther cell other

  pub of_cell : (number : ℕ) (other : OtherCell) → slice_get others number ≡ Some other → IsOfCell other
  of_cell number other here =
      let c = cell_of_number cells number (let lt = slice_get_within others number other here in omega (arith, lt, are.all)) in
      let it = are.each c.index number c.cell c.at c.kind in
      record { index = c.index; cell = c.cell; at = c.at; is = subst (IsOther c.cell) (same_Some it.0 other (sym it.1 ∙ here)) it.2 }

  of_cell_at : (number : ℕ) (d : OtherCell) → number < length others → IsOfCell (get_or others number d)
  of_cell_at number d lt = of_cell number (get_or others number d) (slice_get-get_or others number d lt)

  pub are_counted : AreCounted others
  are_counted number d lt = let o = of_cell_at number d lt in o.is.outputs ∙ ap (λ p. length (outputs_of p)) (sym o.is.prim)

  pub are_others_of : AreOthersOf cells others
  are_others_of k number c at kind = let it = are.each k number c at kind in subst (IsOtherOf c.prim) (sym it.1) (it.2.prim, it.2.widths, it.2.outputs)

  module _ (n : Netlist) (valid : IsValid n) (listed : AreCellPorts n cells) (narrow : All (λ width. (1 ≤ width) × (width ≤ 64)) (port_widths n)) where
    port_narrow : (port width : ℕ) → slice_get (port_widths n) port ≡ Some width → (1 ≤ width) × (width ≤ 64)
    port_narrow port width at = subst (λ w. (1 ≤ w) × (w ≤ 64)) (get_or_from_slice_get (port_widths n) port width 0 at) (narrow port 0 (slice_get_within (port_widths n) port width at))

    inputs_narrow : (k : ℕ) (c : CellPorts) → slice_get cells k ≡ Some c → All (λ width. (1 ≤ width) × (width ≤ 64)) (pin_widths (inputs_of c.prim))
    inputs_narrow k c at i d lt =
        let there = (input_widths n valid cells listed k c at).1 in
        port_narrow (c.first + i) (get_or (pin_widths (inputs_of c.prim)) i d)
        (in_range (port_widths n) c.first (c.first + length (inputs_of c.prim)) i (get_or (pin_widths (inputs_of c.prim)) i d) (ap (λ l. slice_get l i) there ∙ slice_get-get_or (pin_widths (inputs_of c.prim)) i d lt))

    outputs_narrow : (k : ℕ) (c : CellPorts) → slice_get cells k ≡ Some c → All (λ width. width ≤ 64) (pin_widths (outputs_of c.prim))
    outputs_narrow k c at i d lt =
        let there = output_width n valid cells listed k c i (get_or (pin_widths (outputs_of c.prim)) i d) at (slice_get-get_or (pin_widths (outputs_of c.prim)) i d lt) in
        (port_narrow (first_port n k + (length (inputs_of c.prim) + i)) (get_or (pin_widths (outputs_of c.prim)) i d) there).1

    is_narrow : (other : OtherCell) → IsOfCell other → IsNarrow other.state other.widths.items
    is_narrow other o =
        let widths : other.widths.items ≡ pin_widths (inputs_of o.cell.prim) = o.is.widths in
        record {
          inputs = widths ∙ ap (λ p. pin_widths (inputs_of p)) (sym o.is.prim);
          count = omega (arith, ap length widths, length-map (inputs_of o.cell.prim) (λ (p : Pin). p.width), few_inputs o.cell.prim);
          within = subst (All (λ width. (1 ≤ width) × (width ≤ 64))) (sym widths) (inputs_narrow o.index o.cell o.at);
          outputs = subst (λ p. All (λ width. width ≤ 64) (pin_widths (outputs_of p))) (sym o.is.prim) (outputs_narrow o.index o.cell o.at);
        }

    pub are_narrow : AreNarrow others
    are_narrow number d lt = is_narrow (get_or others number d) (of_cell_at number d lt)

-- ---- with the same pins

pub record AreLike (old new : List OtherCell) : Type 0 where
  pub all : length new ≡ length old
  pub each : (k : ℕ) (o n : OtherCell) → slice_get old k ≡ Some o → slice_get new k ≡ Some n → IsLike o n

pub like_stepped : (places : List (List ℕ)) (slots : List ℕ) (old new : List OtherCell) → length places ≡ length old → AreSteppedOthers places slots old new → AreLike old new
like_stepped places slots old new count stepped = record {
  all = stepped.all;
  each = λ k o n at at'.
      let p = at_some places k (let lt = slice_get_within old k o at in omega (arith, lt, count)) in
      let is = stepped.each k p.0 o n p.1 at at' in
      record { prim = is.prim; widths = is.widths; outputs = is.outputs };
}

pub like_loaded : (number place word : ℕ) (old new : List OtherCell) → IsLoadedOther number place word old new → AreLike old new
like_loaded number place word old new is = record { all = is.all; each = is.each }

below_like : (old new : List OtherCell) → AreLike old new → (choices : List Choice) (slot : ℕ) (step : Operation) → IsBelow old choices slot step → IsBelow new choices slot step
below_like old new like choices slot (Output number output first second) below = (
  below.0,
  below.1,
  (let lt = below.2 in omega (arith, lt, like.all)),
  λ other at.
      let o = at_some old number below.2 in
      let same = (like.each number o.0 other o.1 at).prim in
      subst (λ p. output < length (outputs_of p)) (sym same) (below.3 o.0 o.1),
)
below_like old new like choices slot step below = below

module _ (old new : List OtherCell) (like : AreLike old new) where
  pub sound_like : (base : ℕ) (program : Program) → IsSound base program old → IsSound base program new
  sound_like base program sound = record {
    below = λ k step at. below_like old new like program.choices.items (base + k) step (sound.below k step at);
    ports = sound.ports;
    next = sound.next;
    clashes = sound.clashes;
    places = sound.places;
  }

  fit_like : (base room : ℕ) (program : Program) → IsFit base room old program → IsFit base room new program
  fit_like base room program fit = record { within = fit.within; sound = sound_like base program fit.sound }

  pub all_fit_like : (base : ℕ) (programs : Programs) → AreFit base old programs → AreFit base new programs
  all_fit_like base programs fit = record {
    general = fit_like base programs.room programs.general fit.general;
    any = fit.any;
    cases = λ k d lt. fit_like base programs.room (get_or programs.cases.items k d) (fit.cases k d lt);
    opening_within = fit.opening_within;
    opening_below = λ k step at. below_like old new like [] (base + k) step (fit.opening_below k step at);
  }

  pub others_like : (cells : List CellPorts) → AreOthers cells old → AreOthers cells new
  others_like cells are = record {
    all = like.all ∙ are.all;
    each = λ k number cell at kind.
        let o = are.each k number cell at kind in
        let n = at_some new number (let lt = slice_get_within old number o.0 o.1 in omega (arith, lt, like.all)) in
        let is = like.each number o.0 n.0 o.1 n.1 in (
          n.0,
          n.1,
          record {
            prim = is.prim ∙ o.2.prim;
            widths = ap (λ (v : _). v.items) is.widths ∙ o.2.widths;
            outputs = is.outputs ∙ o.2.outputs;
          },
        );
  }
