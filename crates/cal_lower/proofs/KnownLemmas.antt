-- What a line of the source names is known, wide and readable in the answer as it was in the source.
use Rattle.std.proofs.Common.{◌≡◌, List, [], ◌∷◌, ◌++◌, get_or, Option, Some, None, IsSome, refl, sym, ap, subst, ◌∙◌}
use Rattle.std.specs.Prelude.{All, option_map}
use Rattle.std.proofs.lemmas.List.Elements.{All-weaker, All-contains, Contains-get_or, Contains-append_left, Contains-append_right}
use Rattle.net_core.specs.Graph.{source_ports, guard_ports, guards_ports, option_ports}
use Rattle.net_core.specs.Guard.{GuardTree, GuardTrees, Reads, Compares, Negates, AllOf, AnyOf, NoGuards, MoreGuards}
use Rattle.net_core.specs.declared.net.Src.{Src}
use Rattle.net_core.specs.declared.net.Src.TheVariants.{Port, Lit}
use Rattle.cal_ast.proofs.ListLemmas.{Contains-here}
use Rattle.cal_ast.proofs.SideLemmas.{some_of}
use Rattle.cal_ast.specs.Naming.{IsKnownPort, NamesKnown, DoneNamesKnown}
use Rattle.cal_ast.specs.Ports.{SidedPin, port_named, port_in, width_in}
use Rattle.cal_ast.specs.Sides.{DrivesDestination, IsSource, ReadsSources, DoneReadsSources}
use Rattle.cal_ast.specs.Tree.{PortName, Assignment, DoneLine, GroupDef, Component, Design}
use Rattle.cal_ast.specs.Typing.{source_width, GuardAgrees, GuardsAgree, OptionAgrees, WidthsAgree, DoneAgrees}
use Rattle.cal_lower.specs.inside.Added.{Additions, extended}
use Rattle.cal_lower.proofs.ExtendedLemmas.{AreOfPrimitives, answer, ports_kept, place_found, destination_kept, source_kept}

module _ (add : Additions) (primitive : AreOfPrimitives add) (source : Design) (c : Component) where
  abbrev low : Design
  low = answer add source

  abbrev d : Component
  d = extended add c

  -- a port of the source is the same in the answer
  pub port_kept : (p : PortName) → IsKnownPort source c p → port_in low d p ≡ port_in source c p
  port_kept p known =
      let q = some_of (port_in source c p) known in
      ap (λ ports. port_named ports p.pin) (ports_kept add primitive source c p.cell (place_found source source c p.cell p.pin q.0 q.1))

  pub known_kept : (p : PortName) → IsKnownPort source c p → IsKnownPort low d p
  known_kept p known = let K : Option SidedPin → Type 0 = λ o. IsSome o in subst K (sym (port_kept p known)) known

  pub width_kept : (p : PortName) → IsKnownPort source c p → width_in low d p ≡ width_in source c p
  width_kept p known = ap (option_map (λ (q : SidedPin). q.pin.width)) (port_kept p known)

  pub source_width_kept : (s : Src PortName) → All (IsKnownPort source c) (source_ports s) → source_width low d s ≡ source_width source c s
  source_width_kept (Port p) known = width_kept p (All-contains (IsKnownPort source c) (p ∷ []) p known (Contains-here p []))
  source_width_kept (Lit width value) known = refl

  all_left : (ps qs : List PortName) → All (IsKnownPort source c) (ps ++ qs) → All (IsKnownPort source c) ps
  all_left ps qs all k x within = All-contains (IsKnownPort source c) (ps ++ qs) (get_or ps k x) all (Contains-append_left ps qs (get_or ps k x) (Contains-get_or ps k x within))

  all_right : (ps qs : List PortName) → All (IsKnownPort source c) (ps ++ qs) → All (IsKnownPort source c) qs
  all_right ps qs all k x within = All-contains (IsKnownPort source c) (ps ++ qs) (get_or qs k x) all (Contains-append_right ps qs (get_or qs k x) (Contains-get_or qs k x within))

  mutual
    pub guard_kept : (g : GuardTree PortName) → All (IsKnownPort source c) (guard_ports g) → GuardAgrees source c g → GuardAgrees low d g
    guard_kept (Reads s) known is = (is.0, source_width_kept s known ∙ is.1)
    guard_kept (Compares op a b) known is =
        (is.0, is.1, source_width_kept a (all_left (source_ports a) (source_ports b) known) ∙ is.2 ∙ sym (source_width_kept b (all_right (source_ports a) (source_ports b) known)))
    guard_kept (Negates g) known is = guard_kept g known is
    guard_kept (AllOf gs) known is = guards_kept gs known is
    guard_kept (AnyOf gs) known is = guards_kept gs known is

    guards_kept : (gs : GuardTrees PortName) → All (IsKnownPort source c) (guards_ports gs) → GuardsAgree source c gs → GuardsAgree low d gs
    guards_kept NoGuards known is = tt
    guards_kept (MoreGuards g gs) known is =
        (guard_kept g (all_left (guard_ports g) (guards_ports gs) known) is.0, guards_kept gs (all_right (guard_ports g) (guards_ports gs) known) is.1)

  pub option_kept : (g : Option (GuardTree PortName)) → All (IsKnownPort source c) (option_ports g) → OptionAgrees source c g → OptionAgrees low d g
  option_kept None known is = tt
  option_kept (Some g) known is = guard_kept g known is

  pub all_known : (ps : List PortName) → All (IsKnownPort source c) ps → All (IsKnownPort low d) ps
  all_known ps all = All-weaker (IsKnownPort source c) (IsKnownPort low d) known_kept ps all

  pub all_sources : (ps : List PortName) → All (IsSource source c) ps → All (IsSource low d) ps
  all_sources ps all = All-weaker (IsSource source c) (IsSource low d) (λ p is. source_kept add primitive source c p.cell p.pin is) ps all

  -- ---- C2 and C4 to C6 of an assignment, and of a done line

  pub names_kept : (a : Assignment) → NamesKnown source c a → NamesKnown low d a
  names_kept a is = record {
    dst = known_kept a.dst is.dst;
    guard = all_known (option_ports a.guard) is.guard;
    src = all_known (source_ports a.src) is.src;
  }

  pub widths_kept : (a : Assignment) → NamesKnown source c a → WidthsAgree source c a → WidthsAgree low d a
  widths_kept a known is = record {
    literal = is.literal;
    sides = width_kept a.dst known.dst ∙ is.sides ∙ sym (source_width_kept a.src known.src);
    guard = option_kept a.guard known.guard is.guard;
  }

  pub drives_kept : (a : Assignment) → DrivesDestination source c a → DrivesDestination low d a
  drives_kept a is = destination_kept add primitive source c a.dst.cell a.dst.pin is

  pub reads_kept : (a : Assignment) → ReadsSources source c a → ReadsSources low d a
  reads_kept a is = (all_sources (option_ports a.guard) is.0, all_sources (source_ports a.src) is.1)

  pub done_names_kept : (g : GroupDef) (l : DoneLine) → DoneNamesKnown source c g l → DoneNamesKnown low d g l
  done_names_kept g l is = record {
    group = is.group;
    guard = all_known (option_ports l.guard) is.guard;
    src = all_known (source_ports l.src) is.src;
  }

  pub done_agrees_kept : (g : GroupDef) (l : DoneLine) → DoneNamesKnown source c g l → DoneAgrees source c l → DoneAgrees low d l
  done_agrees_kept g l known is = record { literal = is.literal; guard = option_kept l.guard known.guard is.guard }

  pub done_reads_kept : (l : DoneLine) → DoneReadsSources source c l → DoneReadsSources low d l
  done_reads_kept l is = (all_sources (option_ports l.guard) is.0, all_sources (source_ports l.src) is.1)
