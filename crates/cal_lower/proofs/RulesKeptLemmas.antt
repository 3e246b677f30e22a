-- An extended design keeps C1 to C11, place by place.
use Rattle.std.proofs.Common.{◌≡◌, inl, inr, ℕ, List, [], ◌∷◌, ◌++◌, take, get_or, Bool, true, false, Some, refl, sym, ap, ap₂, subst, ◌∙◌, arith}
use Rattle.std.specs.Prelude.{All, Contains, slice_get, codes, is_some, option_map, if◌then◌else◌}
use Rattle.std.proofs.lemmas.Bool.{cases_Bool, both_ways, cond-false}
use Rattle.std.proofs.lemmas.List.Elements.{All-nil, All-cons, All-push, Contains-append_cases}
use Rattle.std.proofs.lemmas.Option.{slice_get-map}
use Rattle.hw_names.specs.Name.{Text, AreDistinct}
use Rattle.hw_prims.specs.Table.{Pin, pin, pin_names, is_primitive}
use Rattle.cal_ast.proofs.DriveLemmas.{input_or_output}
use Rattle.cal_ast.proofs.ItemLemmas.{has_widths, known_cell, has_parameters, names_known, widths_agree, drives_destination, reads_sources, assignment_item, group_assignment_item, done_item, done_names_known, done_reads_sources, signature_item}
use Rattle.cal_ast.proofs.ListLemmas.{place_of, Contains-at, Contains-none, Contains-cases_first}
use Rattle.cal_ast.proofs.SideLemmas.{output_destination, some_found}
use Rattle.cal_ast.specs.Items.{Item, TheSignature, TheGroup, TheAssignment, TheDone, items_of}
use Rattle.cal_ast.specs.Naming.{AnyName, Unreserved, HasNewNames, IsKnownCell, IsKnownPort, Involves, component_names, group_names}
use Rattle.cal_ast.specs.NoInvoke.{IsPlainDesign}
use Rattle.cal_ast.specs.Plain.{HasPlainTree}
use Rattle.cal_ast.specs.Ports.{is_bare, outputs_in, has_pin, with_pin, SidedPin, port_in, width_in}
use Rattle.cal_ast.specs.Rules.{Rule, C1, C2, C3, C4, C5, C6, C7, C8, Keeps, KeepsComponent, KeepsRules, all_rules}
use Rattle.cal_ast.specs.Sides.{IsSource}
use Rattle.cal_ast.specs.Tree.{own, CellDef, Assignment, GroupDef, Component, Design}
use Rattle.cal_ast.specs.Typing.{HasParameters, HasWidth, HasWidths}
use Rattle.cal_lower.specs.inside.Added.{Additions, extended}
use Rattle.cal_lower.specs.inside.Lowered.{done_set}
use Rattle.cal_lower.specs.inside.Pieces.{acts_name, shown, over_name}
use Rattle.cal_lower.proofs.ExtendedLemmas.{AreOfPrimitives, AreNamed, answer, extended_bare, extended_is_bare, extended_name, extended_groups, extended_ins, extended_outs, extended_inputs, extended_outputs, extended_absent, extended_sets, extended_cells, added_cells, added_made, added_is_primitive, part_of-extended}
use Rattle.cal_lower.proofs.GoodLemmas.{IsGoodSet, IsBitPort, is_width_one}
use Rattle.cal_lower.proofs.ItemPlaceLemmas.{IsPlace, Signs, HasCell, HasGroup, Assigns, AssignsIn, IsDone, place_of_item}
use Rattle.cal_lower.proofs.KnownLemmas.{known_kept, width_kept, source_width_kept, names_kept, widths_kept, drives_kept, reads_kept, done_names_kept, done_agrees_kept, done_reads_kept}
use Rattle.cal_lower.proofs.ListLemmas.{Each, each_at}
use Rattle.cal_lower.proofs.NamesKeptLemmas.{component_names-extended, take-extended, not_earlier, extended_apart, reach_back}
use Rattle.cal_lower.proofs.PinLemmas.{with_pin_has}
use Rattle.cal_lower.proofs.SourceLemmas.{at_item, new_group, header_item}

wide_with_pin : (name : Text) (pins : List Pin) → All HasWidth pins → All HasWidth (with_pin name pins)
wide_with_pin name pins all = by (has_pin pins name)
  where
    by : (b : Bool) → All HasWidth (if b then pins else pins ++ pin name 1 ∷ [])
    by true = all
    by false = All-push HasWidth pins (pin name 1) all is_width_one

wide_by : (b : Bool) (written implied : List Pin) → All HasWidth written → All HasWidth implied → All HasWidth (if b then written else implied)
wide_by true written implied one other = one
wide_by false written implied one other = other

-- what is added agrees with the rules: its assignments do, and the wires that are read outside it show bits
pub record AgreesWithRules (add : Additions) (source : Design) (c : Component) : Type 0 where
  pub sets : Each (IsGoodSet (answer add source) (extended add c)) (add.sets c)
  pub over : IsBitPort (answer add source) (extended add c) (shown over_name)
  pub acts : (g : GroupDef) → Contains c.groups g → IsBitPort (answer add source) (extended add c) (shown (acts_name g.name))

module _ (add : Additions) (primitive : AreOfPrimitives add) (source : Design) (tree : HasPlainTree source) (plain : IsPlainDesign source) (n : ℕ) (c : Component)
    (at : slice_get source n ≡ Some c) (named : is_bare c ≡ false → AreNamed add c) (agrees : is_bare c ≡ false → AgreesWithRules add source c) where
  abbrev low : Design
  low = answer add source

  in_design : Contains source c
  in_design = Contains-at source n c at

  -- ---- the signature

  new_here : HasNewNames (take n low) (extended add c)
  new_here =
      let i = place_of (items_of c) TheSignature (signature_item c) in
      let names : HasNewNames (take n source) c = plain.keeps n c at i.0 TheSignature i.1 0 C1 (omega arith) in
      let same : component_names (take n low) ≡ component_names (take n source) = ap component_names (take-extended add n source) ∙ component_names-extended add (take n source) in
      let C : List Text → Type 0 = λ xs. Contains xs (extended add c).name in
      let N : Text → Type 0 = λ x. Contains (component_names (take n source)) x in
      let D : List Pin → Type 0 = λ pins. AreDistinct (pin_names pins) in
      record {
        no_primitive = ap is_primitive (extended_name add c) ∙ names.no_primitive;
        new = λ has. names.new (subst N (extended_name add c) (subst C same has));
        ports = subst D (sym (ap₂ (λ (x y : List Pin). x ++ y) (extended_inputs add c) (extended_outputs add c))) names.ports;
      }

  wide_here : HasWidths low (extended add c)
  wide_here =
      let widths : HasWidths source c = has_widths AnyName source plain.keeps n c at in
      let W : List Pin → Type 0 = λ pins. All HasWidth pins in
      record {
        ins = subst W (sym (extended_ins add c)) (wide_by (is_bare c) c.ins (with_pin (codes "go") c.ins) widths.ins (wide_with_pin (codes "go") c.ins widths.ins));
        outs = subst W (sym (extended_outs add c)) (wide_by (is_bare c) c.outs (with_pin (codes "done") c.outs) widths.outs (wide_with_pin (codes "done") c.outs widths.outs));
        go = λ full. absurd (both_ways (is_bare (extended add c)) full (extended_is_bare add c));
        done = λ full. absurd (both_ways (is_bare (extended add c)) full (extended_is_bare add c));
      }

  -- ---- cells

  known_here : (cell : CellDef) → Contains (extended add c).cells cell → IsKnownCell low (extended add c) cell × HasParameters cell
  known_here cell has =
      let L : List CellDef → Type 0 = λ xs. Contains xs cell in
      elim (Contains-append_cases c.cells (added_cells add c) cell (subst L (extended_cells add c) has)) [
        | inl own_cell ↦
            let k = place_of c.cells cell own_cell in (
              elim (known_cell AnyName source plain.keeps n c at k.0 cell k.1) [
                | inl primitive ↦ inl primitive
                | inr (part, is, none) ↦ inr (
                  extended add part,
                  part_of-extended add primitive source cell ∙ ap (option_map (extended add)) is,
                  λ reaches.
                      let R : Text → Type 0 = λ x. Involves low x (extended add part) in
                      none (reach_back add primitive source c.name (extended add part) (subst R (extended_name add c) reaches) part refl),
                )
              ],
              has_parameters AnyName source plain.keeps n c at k.0 cell k.1,
            )
        | inr added ↦
            let made = added_made add primitive source c cell added in
            let prim : is_primitive cell.made ≡ true = added_is_primitive add primitive source c cell added in
            (inl prim, (λ is. ap is_some made.1, λ is. absurd (both_ways (is_primitive cell.made) is prim)))
      ]

  -- ---- assignments

  source_good : (a : Assignment) → Contains (items_of c) (TheAssignment a) → IsGoodSet low (extended add c) a
  source_good a item =
      let names = names_known AnyName source plain.keeps n c at a item in
      record {
        names = names_kept add primitive source c a names;
        widths = widths_kept add primitive source c a names (widths_agree AnyName source plain.keeps n c at a item);
        drives = drives_kept add primitive source c a (drives_destination AnyName source plain.keeps n c at a item);
        reads = reads_kept add primitive source c a (reads_sources AnyName source plain.keeps n c at a item);
      }

  module _ (full : is_bare c ≡ false) where
    done_good : IsGoodSet low (extended add c) done_set
    done_good =
        let width : width_in source c (own (codes "done")) ≡ Some 1 = (has_widths AnyName source plain.keeps n c at).done full in
        let q = some_found (λ (x : SidedPin). x.pin.width) (port_in source c (own (codes "done"))) 1 width in
        let known : IsKnownPort source c (own (codes "done")) = ap is_some q.1 in
        let over : IsBitPort low (extended add c) (shown over_name) = (agrees full).over in
        let D : List Pin → Type 0 = λ pins. Contains (pin_names pins) (codes "done") in
        let output : Contains (pin_names (outputs_in c)) (codes "done") =
        subst D (sym (cond-false (is_bare c) c.outs (with_pin (codes "done") c.outs) full)) (with_pin_has (codes "done") c.outs) in
        record {
          names = record {
            dst = known_kept add primitive source c (own (codes "done")) known;
            guard = All-nil (IsKnownPort low (extended add c));
            src = All-cons (IsKnownPort low (extended add c)) (shown over_name) [] over.known (All-nil (IsKnownPort low (extended add c)));
          };
          widths = record { literal = tt; sides = width_kept add primitive source c (own (codes "done")) known ∙ width ∙ sym over.width; guard = tt };
          drives = output_destination low (extended add c) (codes "done") (extended_is_bare add c)
              (λ input. input_or_output AnyName source plain.keeps c in_design (codes "done") (subst D (extended_inputs add c) input) output)
              (subst D (sym (extended_outputs add c)) output);
          reads = (
            All-nil (IsSource low (extended add c)),
            All-cons (IsSource low (extended add c)) (shown over_name) [] over.source (All-nil (IsSource low (extended add c))),
          );
        }

  set_good : (a : Assignment) → Contains (extended add c).sets a → IsGoodSet low (extended add c) a
  set_good a has =
      let S : List Assignment → Type 0 = λ sets. Contains sets a in
      let Good : Assignment → Type 0 = λ x. IsGoodSet low (extended add c) x in
      elim (cases_Bool (is_bare c)) [
        | inl bare ↦ source_good a (assignment_item c a (subst S (ap (λ (x : Component). x.sets) (extended_bare add c bare)) has))
        | inr full ↦
            elim (Contains-append_cases (c.sets ++ add.sets c) (done_set ∷ []) a (subst S (extended_sets add c full) has)) [
              | inl front ↦ elim (Contains-append_cases c.sets (add.sets c) a front) [
                | inl own_set ↦ source_good a (assignment_item c a own_set)
                | inr added ↦ each_at Good (add.sets c) a (agrees full).sets added
              ]
              | inr last ↦ elim (Contains-cases_first done_set [] a last) [
                | inl same ↦ subst Good same (done_good full)
                | inr none ↦ absurd (Contains-none a none)
              ]
            ]
      ]

  group_of : (g : GroupDef) → Contains (extended add c).groups g → Contains c.groups g
  group_of g has = let G : List GroupDef → Type 0 = λ gs. Contains gs g in subst G (extended_groups add c) has

  -- ---- each place

  keeps_place : (item : Item) → IsPlace (extended add c) item → (rule : Rule) → Keeps Unreserved low (take n low) (extended add c) item rule
  keeps_place item Signs C1 = new_here
  keeps_place item Signs C4 = wide_here
  keeps_place item Signs rule = tt
  keeps_place item (HasCell k cell there) C1 =
      (not_earlier (extended add c).cells (extended_apart add source tree plain n c at named) k cell there, λ full. absurd (both_ways (is_bare (extended add c)) full (extended_is_bare add c)))
  keeps_place item (HasCell k cell there) C2 = (known_here cell (Contains-at (extended add c).cells k cell there)).0
  keeps_place item (HasCell k cell there) C3 = (known_here cell (Contains-at (extended add c).cells k cell there)).1
  keeps_place item (HasCell k cell there) rule = tt
  keeps_place item (HasGroup k g there) C1 =
      let here : slice_get c.groups k ≡ Some g = sym (ap (λ (gs : List GroupDef). slice_get gs k) (extended_groups add c)) ∙ there in
      let G : List GroupDef → Type 0 = λ gs. Contains (group_names (take k gs)) g.name in
      (λ has. new_group source tree plain c in_design k g here (subst G (extended_groups add c) has), λ full. absurd (both_ways (is_bare (extended add c)) full (extended_is_bare add c)))
  keeps_place item (HasGroup k g there) C7 =
      let here : slice_get c.groups k ≡ Some g = sym (ap (λ (gs : List GroupDef). slice_get gs k) (extended_groups add c)) ∙ there in
      at_item source tree plain c in_design (TheGroup (take k c.groups) g) (header_item source tree plain c in_design k g here) 6 C1 (omega arith)
  keeps_place item (HasGroup k g there) rule = tt
  keeps_place item (Assigns a has) C2 = (set_good a has).names
  keeps_place item (Assigns a has) C4 = (set_good a has).widths
  keeps_place item (Assigns a has) C5 = (set_good a has).drives
  keeps_place item (Assigns a has) C6 = (set_good a has).reads
  keeps_place item (Assigns a has) rule = tt
  keeps_place item (AssignsIn g a of has) C2 = (source_good a (group_assignment_item c g a (group_of g of) has)).names
  keeps_place item (AssignsIn g a of has) C4 = (source_good a (group_assignment_item c g a (group_of g of) has)).widths
  keeps_place item (AssignsIn g a of has) C5 = (source_good a (group_assignment_item c g a (group_of g of) has)).drives
  keeps_place item (AssignsIn g a of has) C6 = (source_good a (group_assignment_item c g a (group_of g of) has)).reads
  keeps_place item (AssignsIn g a of has) rule = tt
  keeps_place item (IsDone g k l of there) C2 =
      done_names_kept add primitive source c g l (done_names_known AnyName source plain.keeps n c at g (group_of g of) k l there)
  keeps_place item (IsDone g k l of there) C4 =
      done_agrees_kept add primitive source c g l (done_names_known AnyName source plain.keeps n c at g (group_of g of) k l there)
      (at_item source tree plain c in_design (TheDone g (take k g.dones) l) (done_item c g k l (group_of g of) there) 3 C1 (omega arith))
  keeps_place item (IsDone g k l of there) C6 = done_reads_kept add primitive source c l (done_reads_sources AnyName source plain.keeps n c at g (group_of g of) k l there)
  keeps_place item (IsDone g k l of there) C7 = λ comb.
      let names = done_names_known AnyName source plain.keeps n c at g (group_of g of) k l there in
      let only = at_item source tree plain c in_design (TheDone g (take k g.dones) l) (done_item c g k l (group_of g of) there) 6 C1 (omega arith) comb in
      (only.0, source_width_kept add primitive source c l.src names.src ∙ only.1)
  keeps_place item (IsDone g k l of there) C8 =
      at_item source tree plain c in_design (TheDone g (take k g.dones) l) (done_item c g k l (group_of g of) there) 7 C1 (omega arith)
  keeps_place item (IsDone g k l of there) rule = tt

  keeps_here : KeepsComponent Unreserved low (take n low) (extended add c)
  keeps_here k item there j default within =
      keeps_place item (place_of_item (extended add c) (extended_absent add c) item (Contains-at (items_of (extended add c)) k item there)) (get_or all_rules j default)

-- C1 to C11
pub rules_kept : (add : Additions) → AreOfPrimitives add → (source : Design) → HasPlainTree source → IsPlainDesign source
    → ((c : Component) → Contains source c → is_bare c ≡ false → AreNamed add c) → ((c : Component) → Contains source c → is_bare c ≡ false → AgreesWithRules add source c)
    → KeepsRules (answer add source)
rules_kept add primitive source tree plain named agrees n x at =
    let c = some_found (extended add) (slice_get source n) x (sym (slice_get-map (extended add) source n) ∙ at) in
    let K : Component → Type 0 = λ d. KeepsComponent Unreserved (answer add source) (take n (answer add source)) d in
    let has : Contains source c.0 = Contains-at source n c.0 c.1 in
    subst K c.2 (keeps_here add primitive source tree plain n c.0 c.1 (named c.0 has) (agrees c.0 has))
