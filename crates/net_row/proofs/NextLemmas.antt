-- Which slots have what is kept of cells after a row.
use Rattle.std.proofs.Common.{◌≡◌, ℕ, zero, suc, ◌+◌, ◌<◌, ◌≤◌, ◌^◌, List, [], ◌∷◌, ◌++◌, Option, Some, length, take, map, refl, sym, ap, ap₂, ◌∙◌, subst, arith, inl, inr, append_assoc, length-append}
use Rattle.std.specs.Prelude.{slice_get, slice_index, ◌==◌, if◌then◌else◌}
use Rattle.std.proofs.lemmas.Bool.{cases_lt}
use Rattle.std.proofs.lemmas.Option.{none-some, same_Some, slice_get_within}
use Rattle.hw_bits.specs.Width.{product_bits}
use Rattle.hw_prims.specs.Meaning.{next_state}
use Rattle.hw_prims.specs.State.{Register as RegisterState, Delay as DelayState, FastMult as FastMultState}
use Rattle.hw_prims.specs.Table.{inputs_of, pin_widths}
use Rattle.hw_prims.specs.declared.prim.Primitive.{Primitive}
use Rattle.hw_prims.specs.declared.prim.Primitive.TheVariants.{StdReg, StdMemD1, StdMemD2, StdMultPipe, FilDelay, FilFastMult, FilSeqMult}
use Rattle.net_sim.specs.Evaluated.{cell_inputs}
use Rattle.net_sim.specs.declared.cells.CellPorts.{CellPorts}
use Rattle.net_steps.proofs.StepLemmas.{extends_itself, extends_twice}
use Rattle.net_steps.specs.Operations.{is_on}
use Rattle.net_steps.specs.Steps.{Extends, AddsSlot}
use Rattle.net_steps.specs.StepsValue.{StepsValue}
use Rattle.net_steps.specs.declared.other.Other.{Other as OtherCell}
use Rattle.net_row.proofs.RowLemmas.{row_in_before, fitting_after, input_value, input_width, kind_is}
use Rattle.net_row.specs.Kinds.{IfKept, kept_for, kept_in, kind_after, kinds_of, others_in, state_of}
use Rattle.net_row.specs.Outputs.{AddsNext, AddsNextOf, IsNextState}
use Rattle.net_row.specs.Rows.{Frame, IsFrame, SlotRow, InEachRow, AreFitting}
use Rattle.net_row.specs.declared.kinds.Kind.{Kind}
use Rattle.net_row.specs.declared.kinds.Kind.TheVariants.{Other}

-- ---- values after others

at_end : (f : ℕ → ℕ) (before : List ℕ) (x : ℕ) (more : List ℕ) → slice_index (map f (before ++ x ∷ more)) (length before) ≡ f x
at_end f [] x more = refl
at_end f (b ∷ before) x more = at_end f before x more

at_second : (f : ℕ → ℕ) (before : List ℕ) (x y : ℕ) → slice_index (map f (before ++ x ∷ y ∷ [])) (length before + 1) ≡ f y
at_second f [] x y = refl
at_second f (b ∷ before) x y =
    let e : length (b ∷ before) + 1 ≡ suc (length before + 1) = omega arith in
    ap (slice_index (map f (b ∷ (before ++ x ∷ y ∷ [])))) e ∙ at_second f before x y

kept_below : (f : ℕ → ℕ) (before added : List ℕ) (k : ℕ) → k < length before → slice_index (map f (before ++ added)) k ≡ slice_index (map f before) k
kept_below f [] added k lt = absurd (omega (arith, lt))
kept_below f (b ∷ before) added zero lt = refl
kept_below f (b ∷ before) added (suc k) lt = kept_below f before added k (omega (arith, lt))

-- a state that stands in the first values stays when others come after them
same_state : (f : ℕ → ℕ) (before added : List ℕ) (kept count : ℕ) (prim : Primitive) → kept + kept_for prim ≤ length before → state_of (map f (before ++ added)) [] (kind_after kept count prim) ≡ state_of (map f before) [] (kind_after kept count prim)
same_state f before added kept count (StdReg w) le = ap₂ RegisterState (kept_below f before added kept (omega (arith, le))) (kept_below f before added (kept + 1) (omega (arith, le)))
same_state f before added kept count (FilDelay w) le = ap DelayState (kept_below f before added kept (omega (arith, le)))
same_state f before added kept count (FilFastMult w) le = ap₂ FastMultState (kept_below f before added kept (omega (arith, le))) (kept_below f before added (kept + 1) (omega (arith, le)))
same_state f before added kept count prim le = refl

if_kept : (kind : Kind) (A B : Type 0) → (A → B) → IfKept kind A → IfKept kind B
if_kept (Other number) A B f is = tt
if_kept kind A B f is = f is

next_stays : (before added after : List ℕ) (cell : CellPorts) (kept count : ℕ) (kind : Kind) (row : SlotRow) (values : List ℕ) → after ≡ before ++ added → kind ≡ kind_after kept count cell.prim → kept + kept_for cell.prim ≤ length before → IsNextState before cell kind row values → IsNextState after cell kind row values
next_stays before added after cell kept count kind row values after_is is le = if_kept kind _ _ (λ e.
    ap (λ l. state_of (map (slice_index row.slots) l) [] kind) after_is
    ∙ ap (state_of (map (slice_index row.slots) (before ++ added)) []) is
    ∙ same_state (slice_index row.slots) before added kept count cell.prim le
    ∙ ap (state_of (map (slice_index row.slots) before) []) (sym is)
    ∙ e)

-- ---- one cell

-- what is kept of a cell is its state after the row
abbrev IsKeptAs : Primitive → (kept count : ℕ) → List ℕ → List OtherCell → List ℕ → List ℕ → Type 0
IsKeptAs prim kept count slots others next ins =
    IfKept (kind_after kept count prim) (state_of next [] (kind_after kept count prim) ≡ next_state prim (state_of slots others (kind_after kept count prim)) ins)

chosen_register : (on value old : ℕ) → on < 2 → RegisterState (if on == 1 then value else old) on ≡ (if on == 1 then RegisterState value 1 else RegisterState old 0)
chosen_register zero value old lt = refl
chosen_register (suc zero) value old lt = refl
chosen_register (suc (suc on)) value old lt = absurd (omega (arith, lt))

register_kept : (prim : Primitive) (w kept count : ℕ) (slots : List ℕ) (others : List OtherCell) (next ins : List ℕ) → prim ≡ StdReg w → slice_index next kept ≡ (if slice_index ins 1 == 1 then slice_index ins 0 else slice_index slots kept) → slice_index next (kept + 1) ≡ slice_index ins 1 → slice_index ins 1 < 2 → IsKeptAs prim kept count slots others next ins
unfolding next_state
register_kept prim w kept count slots others next ins is value on lt =
    subst (λ p. IsKeptAs p kept count slots others next ins) (sym is) (ap₂ RegisterState value on ∙ chosen_register (slice_index ins 1) (slice_index ins 0) (slice_index slots kept) lt)

delay_kept : (prim : Primitive) (w kept count : ℕ) (slots : List ℕ) (others : List OtherCell) (next ins : List ℕ) → prim ≡ FilDelay w → slice_index next kept ≡ slice_index ins 0 → IsKeptAs prim kept count slots others next ins
unfolding next_state
delay_kept prim w kept count slots others next ins is value = subst (λ p. IsKeptAs p kept count slots others next ins) (sym is) (ap DelayState value)

fast_mult_kept : (prim : Primitive) (w kept count : ℕ) (slots : List ℕ) (others : List OtherCell) (next ins : List ℕ) → prim ≡ FilFastMult w → slice_index next kept ≡ product_bits w (slice_index ins 0) (slice_index ins 1) → slice_index next (kept + 1) ≡ slice_index slots kept → IsKeptAs prim kept count slots others next ins
unfolding next_state
fast_mult_kept prim w kept count slots others next ins is value old = subst (λ p. IsKeptAs p kept count slots others next ins) (sym is) (ap₂ FastMultState value old)

none_kept : (prim : Primitive) (kept count : ℕ) (slots : List ℕ) (others : List OtherCell) (next ins : List ℕ) → kept_for prim ≡ 0 → IsKeptAs prim kept count slots others next ins
unfolding next_state
none_kept (StdReg w) kept count slots others next ins none = absurd (omega (arith, none))
none_kept (FilDelay w) kept count slots others next ins none = absurd (omega (arith, none))
none_kept (FilFastMult w) kept count slots others next ins none = absurd (omega (arith, none))
none_kept (StdMemD1 w size idx) kept count slots others next ins none = tt
none_kept (StdMemD2 w size0 size1 idx0 idx1) kept count slots others next ins none = tt
none_kept (StdMultPipe w) kept count slots others next ins none = tt
none_kept (FilSeqMult w) kept count slots others next ins none = tt
none_kept prim kept count slots others next ins none = refl

-- of any other primitive nothing is kept
pub no_kept : (prim : Primitive) → ((w : ℕ) → prim ≡ StdReg w → ⊥) → ((w : ℕ) → prim ≡ FilDelay w → ⊥) → ((w : ℕ) → prim ≡ FilFastMult w → ⊥) → kept_for prim ≡ 0
no_kept (StdReg w) register delay mult = absurd (register w refl)
no_kept (FilDelay w) register delay mult = absurd (delay w refl)
no_kept (FilFastMult w) register delay mult = absurd (mult w refl)
no_kept prim register delay mult = refl

module _ (old new : StepsValue) (ports : List (Option ℕ)) (cell : CellPorts) (before after : List ℕ) where
  pub next_of_none : kept_for cell.prim ≡ 0 → after ≡ before → new ≡ old → AddsNextOf old new ports cell before after
  next_of_none none after_is same = record {
    extends = subst (Extends old) (sym same) (extends_itself old);
    added = [];
    after_is = after_is ∙ sym (append_none before);
    count = sym none;
    made = λ f k count is_frame at at_kind fit row values is size agree.
        none_kept cell.prim (length before) count row.slots row.others (map (slice_index row.slots) after) (cell_inputs values cell) none;
  }
    where
      append_none : (xs : List ℕ) → xs ++ [] ≡ xs
      append_none [] = refl
      append_none (x ∷ xs) = ap (λ l. x ∷ l) (append_none xs)

  pub next_of_register : (w chosen value enable kept : ℕ) → cell.prim ≡ StdReg w → slice_get ports (cell.first + 0) ≡ Some (Some value) → slice_get ports (cell.first + 1) ≡ Some (Some enable) → kept ≡ length before + 0 → AddsSlot old new (λ others slots. if is_on slots enable then slice_index slots value else slice_index slots kept) chosen → after ≡ (before ++ chosen ∷ []) ++ enable ∷ [] → AddsNextOf old new ports cell before after
  unfolding inputs_of
  next_of_register w chosen value enable kept is at_value at_enable kept_is adds after_is = record {
    extends = adds.extends;
    added = chosen ∷ enable ∷ [];
    after_is = joined;
    count = sym (ap kept_for is);
    made = λ f k count is_frame at at_kind fit row values is_row size agree.
        let ins = cell_inputs values cell in
        let slots = row.slots in
        let two : length (inputs_of cell.prim) ≡ 2 = ap (λ p. length (inputs_of p)) is in
        let bit : slice_get (pin_widths (inputs_of cell.prim)) 1 ≡ Some 1 = ap (λ p. slice_get (pin_widths (inputs_of p)) 1) is in
        let in0 = input_value f is_frame k cell at ports row values 0 value agree (omega (arith, two)) at_value in
        let in1 = input_value f is_frame k cell at ports row values 1 enable agree (omega (arith, two)) at_enable in
        let narrow : slice_index slots enable < 2 ^ 1 = fit (cell.first + 1) enable 1 at_enable (input_width f is_frame k cell at 1 1 bit) row (row_in_before f old new adds.extends row is_row) in
        let place : kept ≡ length before = omega (arith, kept_is) in
        register_kept cell.prim w (length before) count slots row.others (map (slice_index slots) after) ins is
        (ap (λ l. slice_index (map (slice_index slots) l) (length before)) joined ∙ at_end (slice_index slots) before chosen (enable ∷ [])
        ∙ adds.made row.others slots is_row.made
        ∙ ap (λ (e : ℕ). if e == 1 then slice_index slots value else slice_index slots kept) (sym in1)
        ∙ ap₂ (λ (d q : ℕ). if slice_index ins 1 == 1 then d else slice_index slots q) (sym in0) place)
        (ap (λ l. slice_index (map (slice_index slots) l) (length before + 1)) joined ∙ at_second (slice_index slots) before chosen enable ∙ sym in1)
        (subst (λ e. e < 2) (sym in1) narrow);
  }
    where
      joined : after ≡ before ++ chosen ∷ enable ∷ []
      joined = after_is ∙ append_assoc before (chosen ∷ []) (enable ∷ [])

  pub next_of_delay : (w value : ℕ) → cell.prim ≡ FilDelay w → slice_get ports (cell.first + 0) ≡ Some (Some value) → new ≡ old → after ≡ before ++ value ∷ [] → AddsNextOf old new ports cell before after
  unfolding inputs_of
  next_of_delay w value is at_value same after_is = record {
    extends = subst (Extends old) (sym same) (extends_itself old);
    added = value ∷ [];
    after_is = after_is;
    count = sym (ap kept_for is);
    made = λ f k count is_frame at at_kind fit row values is_row size agree.
        let one : length (inputs_of cell.prim) ≡ 1 = ap (λ p. length (inputs_of p)) is in
        let in0 = input_value f is_frame k cell at ports row values 0 value agree (omega (arith, one)) at_value in
        delay_kept cell.prim w (length before) count row.slots row.others (map (slice_index row.slots) after) (cell_inputs values cell) is
        (ap (λ l. slice_index (map (slice_index row.slots) l) (length before)) after_is ∙ at_end (slice_index row.slots) before value [] ∙ sym in0);
  }

  pub next_of_fast_mult : (w made left right kept : ℕ) → cell.prim ≡ FilFastMult w → slice_get ports (cell.first + 0) ≡ Some (Some left) → slice_get ports (cell.first + 1) ≡ Some (Some right) → kept ≡ length before + 0 → AddsSlot old new (λ others slots. product_bits w (slice_index slots left) (slice_index slots right)) made → after ≡ (before ++ made ∷ []) ++ kept ∷ [] → AddsNextOf old new ports cell before after
  unfolding inputs_of
  next_of_fast_mult w made left right kept is at_left at_right kept_is adds after_is = record {
    extends = adds.extends;
    added = made ∷ kept ∷ [];
    after_is = joined;
    count = sym (ap kept_for is);
    made = λ f k count is_frame at at_kind fit row values is_row size agree.
        let slots = row.slots in
        let two : length (inputs_of cell.prim) ≡ 2 = ap (λ p. length (inputs_of p)) is in
        let in0 = input_value f is_frame k cell at ports row values 0 left agree (omega (arith, two)) at_left in
        let in1 = input_value f is_frame k cell at ports row values 1 right agree (omega (arith, two)) at_right in
        let place : kept ≡ length before = omega (arith, kept_is) in
        fast_mult_kept cell.prim w (length before) count slots row.others (map (slice_index slots) after) (cell_inputs values cell) is
        (ap (λ l. slice_index (map (slice_index slots) l) (length before)) joined ∙ at_end (slice_index slots) before made (kept ∷ [])
        ∙ adds.made row.others slots is_row.made ∙ ap₂ (product_bits w) (sym in0) (sym in1))
        (ap (λ l. slice_index (map (slice_index slots) l) (length before + 1)) joined ∙ at_second (slice_index slots) before made kept ∙ ap (slice_index slots) place);
  }
    where
      joined : after ≡ before ++ made ∷ kept ∷ []
      joined = after_is ∙ append_assoc before (made ∷ []) (kept ∷ [])

-- ---- all cells, one after another

-- what is kept of the first cells
pub record AreNextOf (old new : StepsValue) (ports : List (Option ℕ)) (cells : List CellPorts) (i : ℕ) (next : List ℕ) : Type 0 where
  pub extends : Extends old new
  pub count : length next ≡ kept_in (take i cells)
  pub made : (f : Frame) → IsFrame f → f.cells ≡ cells → AreFitting f old ports → (k : ℕ) (cell : CellPorts) (kind : Kind) → k < i → slice_get cells k ≡ Some cell → slice_get (kinds_of cells) k ≡ Some kind → InEachRow f new ports (IsNextState next cell kind)

pub next_none : (steps : StepsValue) (ports : List (Option ℕ)) (cells : List CellPorts) → AreNextOf steps steps ports cells 0 []
next_none steps ports cells = record { extends = extends_itself steps; count = refl; made = λ f is_frame same fit k cell kind lt. absurd (omega (arith, lt)) }

kept_more : (cells : List CellPorts) (i : ℕ) (c : CellPorts) → slice_get cells i ≡ Some c → kept_in (take (suc i) cells) ≡ kept_in (take i cells) + kept_for c.prim
kept_more [] i c at = absurd (none-some c at)
kept_more (d ∷ cells) zero c at = let same : d ≡ c = cc in let first : kept_for d.prim ≡ kept_for c.prim = ap (λ (x : CellPorts). kept_for x.prim) same in omega (arith, first)
kept_more (d ∷ cells) (suc i) c at = let more = kept_more cells i c at in omega (arith, more)

kept_up_to : (cells : List CellPorts) (k i : ℕ) (c : CellPorts) → slice_get cells k ≡ Some c → k < i → kept_in (take k cells) + kept_for c.prim ≤ kept_in (take i cells)
kept_up_to cells k zero c at lt = absurd (omega (arith, lt))
kept_up_to [] k (suc i) c at lt = absurd (none-some c at)
kept_up_to (d ∷ cells) zero (suc i) c at lt = let same : d ≡ c = cc in let first : kept_for d.prim ≡ kept_for c.prim = ap (λ (x : CellPorts). kept_for x.prim) same in omega (arith, first)
kept_up_to (d ∷ cells) (suc k) (suc i) c at lt = let more = kept_up_to cells k i c at (omega (arith, lt)) in omega (arith, more)

pub next_more : (old mid new : StepsValue) (ports : List (Option ℕ)) (cells : List CellPorts) (i : ℕ) (c : CellPorts) (before after : List ℕ) → AreNextOf old mid ports cells i before → slice_get cells i ≡ Some c → AddsNextOf mid new ports c before after → AreNextOf old new ports cells (i + 1) after
next_more old mid new ports cells i c before after so_far at_c adds = record {
  extends = extends_twice old mid new so_far.extends adds.extends;
  count = let so = so_far.count in let own = adds.count in let more = kept_more cells i c at_c in let size = ap length adds.after_is in
      let sum : length after ≡ kept_in (take (suc i) cells) = omega (arith, so, own, more, size, length-append before adds.added) in
      let next : suc i ≡ i + 1 = omega arith in
      sum ∙ ap (λ j. kept_in (take j cells)) next;
  made = λ f is_frame same fit k cell kind lt at at_kind. elim (cases_lt k i) [
    | inl earlier ↦ λ row values is size agree.
        next_stays before adds.added after cell (kept_in (take k cells)) (others_in (take k cells)) kind row values adds.after_is (kind_is cells k cell kind at at_kind)
        (let up_to = kept_up_to cells k i cell at earlier in let so = so_far.count in omega (arith, up_to, so))
        (so_far.made f is_frame same fit k cell kind earlier at at_kind row values (row_in_before f mid new adds.extends row is) size agree)
    | inr last ↦
        let here : k ≡ i = omega (arith, lt, last) in
        let cell_is : c ≡ cell = same_Some c cell (sym at_c ∙ ap (slice_get cells) (sym here) ∙ at) in
        let at' : slice_get cells k ≡ Some c = at ∙ ap (λ x. Some x) (sym cell_is) in
        let count : kept_in (take k cells) ≡ length before = ap (λ j. kept_in (take j cells)) here ∙ sym so_far.count in
        let kind_now : kind ≡ kind_after (length before) (others_in (take k cells)) c.prim = kind_is cells k c kind at' at_kind ∙ ap (λ n. kind_after n (others_in (take k cells)) c.prim) count in
        subst (λ x. InEachRow f new ports (IsNextState after x kind)) cell_is (subst (λ x. InEachRow f new ports (IsNextState after c x)) (sym kind_now)
        (adds.made f k (others_in (take k cells)) is_frame (ap (λ l. slice_get l k) same ∙ at') (ap (λ l. slice_get (kinds_of l) k) same ∙ at_kind ∙ ap (λ x. Some x) kind_now) (fitting_after f old mid so_far.extends ports fit)))
  ];
}

pub next_all : (old new : StepsValue) (ports : List (Option ℕ)) (cells : List CellPorts) (next : List ℕ) → AreNextOf old new ports cells (length cells) next → AddsNext old new ports cells next
next_all old new ports cells next all = record {
  extends = all.extends;
  count = all.count ∙ ap kept_in (take_all cells);
  made = λ f is_frame same fit k cell kind at at_kind. all.made f is_frame same fit k cell kind (slice_get_within cells k cell at) at at_kind;
}
  where
    take_all : (xs : List CellPorts) → take (length xs) xs ≡ xs
    take_all [] = refl
    take_all (x ∷ xs) = ap (λ l. x ∷ l) (take_all xs)
