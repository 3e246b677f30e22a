-- What the rules say of a place holds in a design whose components keep their faces.
use Rattle.std.proofs.Common.{◌≡◌, ℕ, zero, suc, List, [], ◌∷◌, ◌++◌, map, take, Option, Some, None, refl, sym, ap, ap₂, ◌∙◌, subst, subst₂, inl, inr}
use Rattle.std.specs.Prelude.{All, Contains, codes, option_map}
use Rattle.std.proofs.lemmas.List.Elements.{All-nil, All-cons, All-weaker}
use Rattle.hw_names.specs.Name.{Text, AreDistinct}
use Rattle.hw_prims.specs.Table.{Pin, is_primitive, pin_names}
use Rattle.net_core.specs.Graph.{option_ports, source_ports}
use Rattle.net_core.specs.Guard.{GuardTree, GuardTrees, Reads, Compares, Negates, AllOf, AnyOf, NoGuards, MoreGuards}
use Rattle.net_core.specs.declared.net.Src.{Src}
use Rattle.net_core.specs.declared.net.Src.TheVariants.{Port, Lit}
use Rattle.cal_ast.proofs.SideLemmas.{some_found}
use Rattle.cal_ast.specs.Naming.{HasNewNames, IsNewCell, IsKnownCell, IsKnownPort, NamesKnown, DoneNamesKnown, Involves, Itself, Over, component_names}
use Rattle.cal_ast.specs.Ports.{part_of}
use Rattle.cal_ast.specs.Rules.{Rule, C1, C2, C3, C4, C5, C6, C7, C8, C9, C10, C11, all_rules}
use Rattle.cal_ast.specs.Sides.{IsSource, DrivesDestination, ReadsSources, DoneReadsSources}
use Rattle.cal_ast.specs.Tree.{PortName, own, CellDef, Assignment, DoneLine, GroupDef, Component, Design}
use Rattle.cal_ast.specs.Typing.{HasWidth, HasWidths, source_width, GuardAgrees, GuardsAgree, OptionAgrees, WidthsAgree, DoneAgrees}
use Rattle.cal_ast.specs.Controlling.{IsOnlyDone}
use Rattle.cal_group.proofs.MappedLemmas.{KeepsFaces, part_of-mapped, inputs_same, outputs_same, width_same, known_after, source_after, destination_after}

-- a rule is one of eleven
pub all_eleven : (P : Rule → Type 0) → P C1 → P C2 → P C3 → P C4 → P C5 → P C6 → P C7 → P C8 → P C9 → P C10 → P C11 → All P all_rules
all_eleven P c1 c2 c3 c4 c5 c6 c7 c8 c9 c10 c11 =
    All-cons P C1 (C2 ∷ C3 ∷ C4 ∷ C5 ∷ C6 ∷ C7 ∷ C8 ∷ C9 ∷ C10 ∷ C11 ∷ []) c1
    (All-cons P C2 (C3 ∷ C4 ∷ C5 ∷ C6 ∷ C7 ∷ C8 ∷ C9 ∷ C10 ∷ C11 ∷ []) c2
    (All-cons P C3 (C4 ∷ C5 ∷ C6 ∷ C7 ∷ C8 ∷ C9 ∷ C10 ∷ C11 ∷ []) c3
    (All-cons P C4 (C5 ∷ C6 ∷ C7 ∷ C8 ∷ C9 ∷ C10 ∷ C11 ∷ []) c4
    (All-cons P C5 (C6 ∷ C7 ∷ C8 ∷ C9 ∷ C10 ∷ C11 ∷ []) c5
    (All-cons P C6 (C7 ∷ C8 ∷ C9 ∷ C10 ∷ C11 ∷ []) c6
    (All-cons P C7 (C8 ∷ C9 ∷ C10 ∷ C11 ∷ []) c7
    (All-cons P C8 (C9 ∷ C10 ∷ C11 ∷ []) c8
    (All-cons P C9 (C10 ∷ C11 ∷ []) c9
    (All-cons P C10 (C11 ∷ []) c10
    (All-cons P C11 [] c11
    (All-nil P)))))))))))

module _ (design : Design) (f : Component → Component) (face : KeepsFaces design f) where
  names_taken : (n : ℕ) (cs : Design) → component_names (take n (map f cs)) ≡ component_names (take n cs)
  names_taken zero cs = refl
  names_taken (suc n) [] = refl
  names_taken (suc n) (c ∷ cs) = ap₂ ◌∷◌ (face.names c) (names_taken n cs)

  -- what reaches a name there reaches it here
  reaches_before : (name : Text) (d : Component) → Involves (map f design) name d → (c : Component) → f c ≡ d → Involves design name c
  reaches_before name d (Itself x is) c same = Itself c (sym (face.names c) ∙ ap (λ (y : Component). y.name) same ∙ is)
  reaches_before name d (Over x part cell has made rest) c same =
      let q = some_found f (part_of design cell) part (sym (part_of-mapped design f face cell) ∙ made) in
      let there = subst (λ (y : Component). Contains y.cells cell) (sym same) has in
      Over c q.0 cell (subst (λ (cells : List CellDef). Contains cells cell) (face.cells c) there) q.1 (reaches_before name part rest q.0 q.2)

  module _ (c : Component) (has : Contains design c) where
    -- ---- the signature and cells

    pub new_names_kept : (n : ℕ) → HasNewNames (take n design) c → HasNewNames (take n (map f design)) (f c)
    new_names_kept n h = record {
      no_primitive = ap is_primitive (face.names c) ∙ h.no_primitive;
      new = λ there. h.new (subst₂ (λ (names : List Text) (name : Text). Contains names name) (names_taken n design) (face.names c) there);
      ports = subst₂ (λ (ins outs : List Pin). AreDistinct (pin_names (ins ++ outs))) (sym (inputs_same design f face c has)) (sym (outputs_same design f face c has)) h.ports;
    }

    pub widths_kept : HasWidths design c → HasWidths (map f design) (f c)
    widths_kept h = record {
      ins = subst (λ (pins : List Pin). All HasWidth pins) (sym (face.ins c)) h.ins;
      outs = subst (λ (pins : List Pin). All HasWidth pins) (sym (face.outs c)) h.outs;
      go = λ control. width_same design f face c has (own (codes "go")) ∙ h.go (sym (face.bare c has) ∙ control);
      done = λ control. width_same design f face c has (own (codes "done")) ∙ h.done (sym (face.bare c has) ∙ control);
    }

    pub new_cell_kept : (before : List CellDef) (cell : CellDef) → IsNewCell c before cell → IsNewCell (f c) before cell
    new_cell_kept before cell h = (h.0, λ control. h.1 (sym (face.bare c has) ∙ control))

    pub known_cell_kept : (cell : CellDef) → IsKnownCell design c cell → IsKnownCell (map f design) (f c) cell
    known_cell_kept cell (inl primitive) = inl primitive
    known_cell_kept cell (inr (part, made, none)) = inr (
      f part,
      part_of-mapped design f face cell ∙ ap (option_map f) made,
      λ reaches. none (subst (λ (name : Text). Involves design name part) (face.names c) (reaches_before (f c).name (f part) reaches part refl)),
    )

    -- ---- guards and sources

    pub source_width_same : (s : Src PortName) → source_width (map f design) (f c) s ≡ source_width design c s
    source_width_same (Port p) = width_same design f face c has p
    source_width_same (Lit width value) = refl

    mutual
      pub guard_kept : (g : GuardTree PortName) → GuardAgrees design c g → GuardAgrees (map f design) (f c) g
      guard_kept (Reads s) h = (h.0, source_width_same s ∙ h.1)
      guard_kept (Compares op a b) h = (h.0, h.1, source_width_same a ∙ h.2 ∙ sym (source_width_same b))
      guard_kept (Negates g) h = guard_kept g h
      guard_kept (AllOf gs) h = guards_kept gs h
      guard_kept (AnyOf gs) h = guards_kept gs h

      guards_kept : (gs : GuardTrees PortName) → GuardsAgree design c gs → GuardsAgree (map f design) (f c) gs
      guards_kept NoGuards h = tt
      guards_kept (MoreGuards g gs) h = (guard_kept g h.0, guards_kept gs h.1)

    pub option_kept : (o : Option (GuardTree PortName)) → OptionAgrees design c o → OptionAgrees (map f design) (f c) o
    option_kept None h = tt
    option_kept (Some g) h = guard_kept g h

    pub all_known : (ports : List PortName) → All (IsKnownPort design c) ports → All (IsKnownPort (map f design) (f c)) ports
    all_known ports all = All-weaker (IsKnownPort design c) (IsKnownPort (map f design) (f c)) (known_after design f face c has) ports all

    pub all_sources : (ports : List PortName) → All (IsSource design c) ports → All (IsSource (map f design) (f c)) ports
    all_sources ports all = All-weaker (IsSource design c) (IsSource (map f design) (f c)) (source_after design f face c has) ports all

    -- ---- assignments

    pub names_known_kept : (a : Assignment) → NamesKnown design c a → NamesKnown (map f design) (f c) a
    names_known_kept a h = record {
      dst = known_after design f face c has a.dst h.dst;
      guard = all_known (option_ports a.guard) h.guard;
      src = all_known (source_ports a.src) h.src;
    }

    pub widths_agree_kept : (a : Assignment) → WidthsAgree design c a → WidthsAgree (map f design) (f c) a
    widths_agree_kept a h = record {
      literal = h.literal;
      sides = width_same design f face c has a.dst ∙ h.sides ∙ sym (source_width_same a.src);
      guard = option_kept a.guard h.guard;
    }

    pub drives_kept : (a : Assignment) → DrivesDestination design c a → DrivesDestination (map f design) (f c) a
    drives_kept a h = destination_after design f face c has a.dst h

    pub reads_kept : (a : Assignment) → ReadsSources design c a → ReadsSources (map f design) (f c) a
    reads_kept a h = (all_sources (option_ports a.guard) h.0, all_sources (source_ports a.src) h.1)

    -- ---- done lines

    pub done_known_kept : (g : GroupDef) (d : DoneLine) → DoneNamesKnown design c g d → DoneNamesKnown (map f design) (f c) g d
    done_known_kept g d h = record {
      group = h.group;
      guard = all_known (option_ports d.guard) h.guard;
      src = all_known (source_ports d.src) h.src;
    }

    pub done_agrees_kept : (d : DoneLine) → DoneAgrees design c d → DoneAgrees (map f design) (f c) d
    done_agrees_kept d h = record { literal = h.literal; guard = option_kept d.guard h.guard }

    pub done_reads_kept : (d : DoneLine) → DoneReadsSources design c d → DoneReadsSources (map f design) (f c) d
    done_reads_kept d h = (all_sources (option_ports d.guard) h.0, all_sources (source_ports d.src) h.1)

    pub only_done_kept : (g : GroupDef) (before : List DoneLine) (d : DoneLine) → IsOnlyDone design c g before d → IsOnlyDone (map f design) (f c) g before d
    only_done_kept g before d h = λ acts. ((h acts).0, source_width_same d.src ∙ (h acts).1)
