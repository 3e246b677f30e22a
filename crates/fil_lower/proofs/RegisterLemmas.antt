-- Shift registers of a component's events, one after another.
use Rattle.std.proofs.Common.{◌≡◌, ◌≢◌, ℕ, zero, suc, Bool, ◌+◌, List, [], ◌∷◌, ◌++◌, length, map, flat_map, take, get_or, slice_get, slice_index_or, All, Contains, Some, Vec, option_map, refl, sym, ap, ap₂, subst, ◌∙◌, append-nil, append_assoc, arith}
use Rattle.std.specs.Prelude.{if◌then◌else◌}
use Rattle.std.specs.declared.alloc.Global.{Global}
use Rattle.std.proofs.lemmas.List.{length-map, map-append}
use Rattle.std.proofs.lemmas.List.Concat.{flat_map-append}
use Rattle.std.proofs.lemmas.List.Elements.{All-append, All-nil, All-push, All-weaker}
use Rattle.hw_names.proofs.NameLemmas.{Contains-slice_get, slice_get-text_of}
use Rattle.std.proofs.lemmas.Option.{none-some, same_Some, slice_get-map}
use Rattle.hw_names.specs.Name.{AreDistinct, IsPlain, KeepsTexts, Text, text_of}
use Rattle.cal_ast.specs.Numbers.{CellHasNumbers, PortHasNumbers, SetHasNumbers}
use Rattle.cal_ast.specs.Tree.{Assignment, CellDef, PortName, assignment_tree, cell_tree}
use Rattle.cal_ast.specs.declared.tree.Assign.{Assign}
use Rattle.cal_ast.specs.declared.tree.CalCell.{CalCell}
use Rattle.cal_ast.specs.declared.tree.CalPort.{CalPort}
use Rattle.fil_ast.specs.Scope.{Scope}
use Rattle.fil_ast.specs.Signature.{event_number}
use Rattle.fil_ast.specs.Tree.{Event}
use Rattle.fil_fsm.proofs.FreshLemmas.{Contains-KeepsTexts}
use Rattle.fil_fsm.specs.Chain.{register}
use Rattle.fil_promise.specs.Refines.{IsGenerated}
use Rattle.fil_fsm.specs.declared.shift.FsmParts.{FsmParts}
use Rattle.fil_share.proofs.ListLemmas.{AllPairs-append, Contains-at}
use Rattle.fil_share.proofs.MakesLemmas.{take_next}
use Rattle.fil_sig.proofs.ListLemmas.{All-mapped}
use Rattle.fil_lower.specs.inside.Lowering.{Lowering, Registers, last_bit, registers_of}
use Rattle.fil_lower.specs.inside.Place.{AreNew, ShowsEvent, ShowsRegisters, bits_shown, event_bits, event_sets, unregistered}
use Rattle.fil_lower.specs.declared.bits.EventBits.{EventBits}
use Rattle.fil_lower.proofs.KeptLemmas.{cell_numbers, cells_kept, map_kept, port_numbers, ports_kept, set_numbers, sets_kept}
use Rattle.fil_lower.proofs.NameLemmas.{first_differs, later_distinct, other_name, same_name}

abbrev sets_by : Scope → List Event → Registers → List Assignment
sets_by scope [] registers = []
sets_by scope (e ∷ events) [] = []
sets_by scope (e ∷ events) (few ∷ registers) = event_sets scope e.name few ++ sets_by scope events registers

abbrev bits_by : Scope → List Event → Registers → List (List PortName)
bits_by scope [] registers = []
bits_by scope (e ∷ events) [] = []
bits_by scope (e ∷ events) (few ∷ registers) = event_bits scope e.name few ∷ bits_by scope events registers

sets_by-push : (scope : Scope) (es : List Event) (rs : Registers) (e : Event) (few : List Text) → length es ≡ length rs
    → sets_by scope (es ++ e ∷ []) (rs ++ few ∷ []) ≡ sets_by scope es rs ++ event_sets scope e.name few
sets_by-push scope [] [] e few same = append-nil (event_sets scope e.name few)
sets_by-push scope [] (r ∷ rs) e few same = absurd (omega (arith, same))
sets_by-push scope (d ∷ es) [] e few same = absurd (omega (arith, same))
sets_by-push scope (d ∷ es) (r ∷ rs) e few same =
    ap (λ sets. event_sets scope d.name r ++ sets) (sets_by-push scope es rs e few (omega (arith, same))) ∙ sym (append_assoc (event_sets scope d.name r) (sets_by scope es rs) (event_sets scope e.name few))

bits_by-push : (scope : Scope) (es : List Event) (rs : Registers) (e : Event) (few : List Text) → length es ≡ length rs
    → bits_by scope (es ++ e ∷ []) (rs ++ few ∷ []) ≡ bits_by scope es rs ++ event_bits scope e.name few ∷ []
bits_by-push scope [] [] e few same = refl
bits_by-push scope [] (r ∷ rs) e few same = absurd (omega (arith, same))
bits_by-push scope (d ∷ es) [] e few same = absurd (omega (arith, same))
bits_by-push scope (d ∷ es) (r ∷ rs) e few same = ap (λ bits. event_bits scope d.name r ∷ bits) (bits_by-push scope es rs e few (omega (arith, same)))

abbrev all_of : Registers → List Text
all_of registers = flat_map (λ few. few) registers

all_of-push : (rs : Registers) (few : List Text) → all_of (rs ++ few ∷ []) ≡ all_of rs ++ few
all_of-push rs few = flat_map-append (λ (few : List Text). few) rs (few ∷ []) ∙ ap (λ more. all_of rs ++ more) (append-nil few)

abbrev HaveNumbers : List Text → Vec CalPort Global → Type 0
HaveNumbers names bits = All (PortHasNumbers names) bits.items

-- the shift registers of the first i events
pub record IsMade (old names : List Text) (scope : Scope) (i : ℕ) (made : EventBits) : Type 0 where
  pub registers : Registers
  pub counts : map length registers ≡ map (λ (e : Event). last_bit (unregistered scope) e.name) (take i scope.comp.events)
  pub cells : map (cell_tree names) made.cells.items ≡ flat_map (map register) registers
  pub sets : map (assignment_tree names) made.sets.items ≡ sets_by scope (take i scope.comp.events) registers
  pub bits : map (bits_shown names) made.bits.items ≡ bits_by scope (take i scope.comp.events) registers
  pub new_names : AreNew old (all_of registers)
  pub present : All (Contains names) (all_of registers)
  pub cell_numbers : All (CellHasNumbers names) made.cells.items
  pub set_numbers : All (SetHasNumbers names) made.sets.items
  pub bit_numbers : All (HaveNumbers names) made.bits.items

pub none_made : (old : List Text) (scope : Scope) (made : EventBits) → made.cells.items ≡ [] → made.sets.items ≡ [] → made.bits.items ≡ [] → IsMade old old scope 0 made
none_made old scope made cells sets bits =
    let C : List CalCell → Type 0 = All (CellHasNumbers old) in
    let S : List Assign → Type 0 = All (SetHasNumbers old) in
    let B : List (Vec CalPort Global) → Type 0 = All (HaveNumbers old) in
    record {
      registers = [];
      counts = refl;
      cells = ap (map (cell_tree old)) cells;
      sets = ap (map (assignment_tree old)) sets;
      bits = ap (map (bits_shown old)) bits;
      new_names = record { generated = All-nil _; fresh = All-nil _; distinct = λ i j d less below. absurd (omega arith) };
      present = All-nil _;
      cell_numbers = subst C (sym cells) (All-nil (CellHasNumbers old));
      set_numbers = subst S (sym sets) (All-nil (SetHasNumbers old));
      bit_numbers = subst B (sym bits) (All-nil (HaveNumbers old));
    }

-- the registers of cells are among the names
cell_names : (few : List Text) → map (λ (d : CellDef). d.name) (map register few) ≡ few
cell_names [] = refl
cell_names (name ∷ few) = ap (λ names. name ∷ names) (cell_names few)

map_names : (names : List Text) (cells : List CalCell) → map (λ (d : CellDef). d.name) (map (cell_tree names) cells) ≡ map (λ (c : CalCell). text_of names c.name) cells
map_names names [] = refl
map_names names (c ∷ cells) = ap (λ ts. text_of names c.name ∷ ts) (map_names names cells)

are_present : (names few : List Text) (cells : List CalCell) → map (cell_tree names) cells ≡ map register few → All (CellHasNumbers names) cells → All (Contains names) few
are_present names few cells are numbers =
    let A : List Text → Type 0 = All (Contains names) in
    let texts : map (λ (c : CalCell). text_of names c.name) cells ≡ few = sym (map_names names cells) ∙ ap (map (λ (d : CellDef). d.name)) are ∙ cell_names few in
    subst A texts (All-mapped (Contains names) (λ (c : CalCell). text_of names c.name) cells
    (λ k d within. let known = (numbers k d within).0 in Contains-slice_get names (get_or cells k d).name.0 _ (slice_get-text_of names (get_or cells k d).name known)))

module _ (old names new : List Text) (scope : Scope) (i : ℕ) (e : Event) (made more : EventBits) (parts : FsmParts) where
  pub more_made : IsMade old names scope i made → KeepsTexts old names → KeepsTexts names new → ShowsEvent names new scope e.name parts → slice_get scope.comp.events i ≡ Some e
      → more.cells.items ≡ made.cells.items ++ parts.cells.items → more.sets.items ≡ made.sets.items ++ parts.sets.items → more.bits.items ≡ made.bits.items ++ parts.bits ∷ [] → IsMade old new scope (i + 1) more
  more_made is first kept shows at cells sets bits =
      let events = scope.comp.events in
      let rs = is.registers in
      let few = shows.registers in
      let next = take_next events i e at in
      let same : length (take i events) ≡ length rs =
      sym (length-map (take i events) (λ (e : Event). last_bit (unregistered scope) e.name)) ∙ sym (ap (length {A = ℕ}) is.counts) ∙ length-map rs (length {A = Text}) in
      let C : List CalCell → Type 0 = All (CellHasNumbers new) in
      let S : List Assign → Type 0 = All (SetHasNumbers new) in
      let B : List (Vec CalPort Global) → Type 0 = All (HaveNumbers new) in
      let P : List Text → Type 0 = All (Contains new) in
      let N : List Text → Type 0 = AreNew old in
      let was_present = is.present in
      record {
        registers = rs ++ few ∷ [];
        counts =
            map-append (length {A = Text}) rs (few ∷ []) ∙ ap₂ (λ ns n. ns ++ n ∷ []) is.counts shows.count
            ∙ sym (ap (map (λ (e : Event). last_bit (unregistered scope) e.name)) next ∙ map-append (λ (e : Event). last_bit (unregistered scope) e.name) (take i events) (e ∷ []));
        cells =
            ap (map (cell_tree new)) cells ∙ map-append (cell_tree new) made.cells.items parts.cells.items
            ∙ ap₂ ◌++◌ (cells_kept names new kept made.cells.items is.cell_numbers ∙ is.cells) shows.cells
            ∙ sym (flat_map-append (map register) rs (few ∷ []) ∙ ap (λ cs. flat_map (map register) rs ++ cs) (append-nil (map register few)));
        sets =
            ap (map (assignment_tree new)) sets ∙ map-append (assignment_tree new) made.sets.items parts.sets.items
            ∙ ap₂ ◌++◌ (sets_kept names new kept made.sets.items is.set_numbers ∙ is.sets) shows.sets
            ∙ sym (ap (λ es. sets_by scope es (rs ++ few ∷ [])) next ∙ sets_by-push scope (take i events) rs e few same);
        bits =
            ap (map (bits_shown new)) bits ∙ map-append (bits_shown new) made.bits.items (parts.bits ∷ [])
            ∙ ap₂ (λ bs b. bs ++ b ∷ []) (map_kept (bits_shown new) (bits_shown names) (HaveNumbers names) (λ b known. ports_kept names new kept b.items known) made.bits.items is.bit_numbers ∙ is.bits) shows.bits
            ∙ sym (ap (λ es. bits_by scope es (rs ++ few ∷ [])) next ∙ bits_by-push scope (take i events) rs e few same);
        new_names = subst N (sym (all_of-push rs few)) (record {
          generated = All-append (λ name. IsGenerated name × IsPlain name) (all_of rs) few is.new_names.generated shows.new_names.generated;
          fresh = All-append (λ name. ¬ Contains old name) (all_of rs) few is.new_names.fresh
              (All-weaker (λ name. ¬ Contains names name) (λ name. ¬ Contains old name) (λ name absent was. absent (Contains-KeepsTexts old names name first was)) few shows.new_names.fresh);
          distinct = AllPairs-append (λ (a b : Text). a ≢ b) (all_of rs) few is.new_names.distinct shows.new_names.distinct
              (All-weaker (Contains names) (λ a. All (λ b. a ≢ b) few)
              (λ a there. All-weaker (λ b. ¬ Contains names b) (λ b. a ≢ b) (λ b absent same. absent (subst (Contains names) same there)) few shows.new_names.fresh) (all_of rs) was_present);
        });
        present = subst P (sym (all_of-push rs few)) (All-append (Contains new) (all_of rs) few
            (All-weaker (Contains names) (Contains new) (λ name there. Contains-KeepsTexts names new name kept there) (all_of rs) was_present)
            (are_present new few parts.cells.items shows.cells shows.numbers.cells));
        cell_numbers = subst C (sym cells) (All-append (CellHasNumbers new) made.cells.items parts.cells.items
            (All-weaker (CellHasNumbers names) (CellHasNumbers new) (cell_numbers names new kept) made.cells.items is.cell_numbers) shows.numbers.cells);
        set_numbers = subst S (sym sets) (All-append (SetHasNumbers new) made.sets.items parts.sets.items
            (All-weaker (SetHasNumbers names) (SetHasNumbers new) (set_numbers names new kept) made.sets.items is.set_numbers) shows.numbers.sets);
        bit_numbers = subst B (sym bits) (All-push (HaveNumbers new) made.bits.items parts.bits
            (All-weaker (HaveNumbers names) (HaveNumbers new) (λ b known. All-weaker (PortHasNumbers names) (PortHasNumbers new) (port_numbers names new kept) b.items known) made.bits.items is.bit_numbers) shows.numbers.bits);
      }

-- ---- registers by the number of their event

at_number : (events : List Event) → AreDistinct (map (λ (e : Event). e.name) events) → (j : ℕ) (e : Event) → slice_get events j ≡ Some e → event_number events e.name ≡ j
at_number [] distinct j e at = absurd (none-some e at)
at_number (d ∷ events) distinct zero e at =
    let same : d ≡ e = same_Some d e at in
    ap (λ (b : Bool). if b then 0 else suc (event_number events e.name)) (same_name d.name e.name (ap (λ (x : Event). x.name) same))
at_number (d ∷ events) distinct (suc j) e at =
    let among = Contains-at (map (λ (e : Event). e.name) events) j e.name (slice_get-map (λ (e : Event). e.name) events j ∙ ap (option_map (λ (e : Event). e.name)) at) in
    ap (λ (b : Bool). if b then 0 else suc (event_number events e.name)) (other_name d.name e.name (first_differs d.name (map (λ (e : Event). e.name) events) e.name distinct among))
    ∙ ap suc (at_number events (later_distinct d.name (map (λ (e : Event). e.name) events) distinct) j e at)

module _ (scope : Scope) (all : Registers) where
  abbrev l : Lowering
  l = record { scope = scope; registers = all }

  registers_are : (es : List Event) (rs : Registers) (k : ℕ) → length es ≡ length rs → ((j : ℕ) → slice_index_or rs j [] ≡ slice_index_or all (k + j) [])
      → ((j : ℕ) (e : Event) → slice_get es j ≡ Some e → event_number scope.comp.events e.name ≡ k + j) → rs ≡ map (λ (e : Event). registers_of l e.name) es
  registers_are [] [] k same here numbers = refl
  registers_are [] (r ∷ rs) k same here numbers = absurd (omega (arith, same))
  registers_are (e ∷ es) [] k same here numbers = absurd (omega (arith, same))
  registers_are (e ∷ es) (r ∷ rs) k same here numbers =
      ap₂ ◌∷◌ (here 0 ∙ ap (λ n. slice_index_or all n []) (sym (numbers 0 e refl)))
      (registers_are es rs (suc k) (omega (arith, same))
      (λ j. let shift : k + suc j ≡ suc k + j = omega arith in here (suc j) ∙ ap (λ n. slice_index_or all n []) shift)
      (λ j d at. let shift : k + suc j ≡ suc k + j = omega arith in numbers (suc j) d at ∙ shift))

  sets_by-map : (of : Event → List Text) (es : List Event) → sets_by scope es (map of es) ≡ flat_map (λ (e : Event). event_sets scope e.name (of e)) es
  sets_by-map of [] = refl
  sets_by-map of (e ∷ es) = ap (λ sets. event_sets scope e.name (of e) ++ sets) (sets_by-map of es)

  bits_by-map : (of : Event → List Text) (es : List Event) → bits_by scope es (map of es) ≡ map (λ (e : Event). event_bits scope e.name (of e)) es
  bits_by-map of [] = refl
  bits_by-map of (e ∷ es) = ap (λ bits. event_bits scope e.name (of e) ∷ bits) (bits_by-map of es)

pub all_made : (old names : List Text) (scope : Scope) (made : EventBits) → AreDistinct (map (λ (e : Event). e.name) scope.comp.events) → (i : ℕ) → take i scope.comp.events ≡ scope.comp.events
    → IsMade old names scope i made → ShowsRegisters old names scope made
all_made old names scope made distinct i whole is =
    let events = scope.comp.events in
    let rs = is.registers in
    let count : map length rs ≡ map (λ (e : Event). last_bit (unregistered scope) e.name) events = is.counts ∙ ap (map (λ (e : Event). last_bit (unregistered scope) e.name)) whole in
    let same : length events ≡ length rs =
    sym (length-map events (λ (e : Event). last_bit (unregistered scope) e.name)) ∙ sym (ap (length {A = ℕ}) count) ∙ length-map rs (length {A = Text}) in
    let are = registers_are scope rs events rs 0 same (λ j. let shift : j ≡ 0 + j = omega arith in ap (λ n. slice_index_or rs n []) shift)
    (λ j e at. let shift : j ≡ 0 + j = omega arith in at_number events distinct j e at ∙ shift) in
    record {
      registers = rs;
      enough = count;
      new_names = is.new_names;
      cells = is.cells;
      sets = is.sets ∙ ap (λ es. sets_by scope es rs) whole ∙ ap (sets_by scope events) are ∙ sets_by-map scope rs (λ (e : Event). registers_of (record { scope = scope; registers = rs }) e.name) events;
      bits = record {
        are = is.bits ∙ ap (λ es. bits_by scope es rs) whole ∙ ap (bits_by scope events) are ∙ bits_by-map scope rs (λ (e : Event). registers_of (record { scope = scope; registers = rs }) e.name) events;
        numbers = is.bit_numbers;
      };
      cell_numbers = is.cell_numbers;
      set_numbers = is.set_numbers;
    }
