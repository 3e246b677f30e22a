-- A simplified netlist has no loop where the old one has none.
use Rattle.std.proofs.Common.{List, [], ◌∷◌, Contains, inl, inr, subst, sym, ◌∙◌}
use Rattle.std.proofs.lemmas.List.Elements.{Contains-append_left, Contains-append_right, Contains-append_cases}
use Rattle.hw_names.specs.Name.{Text}
use Rattle.net_core.specs.Graph.{ByAssignment, ByCell, HasNoLoop, ReadsAlong, ReadsPort, option_ports, set_ports, source_ports}
use Rattle.net_core.specs.Netlist.{CellLine, Netlist, SetLine}
use Rattle.net_core.specs.declared.net.Src.{Src}
use Rattle.net_guard.proofs.LeafLemmas.{ports_within}
use Rattle.net_guard.proofs.RuleLemmas.{old_set}
use Rattle.net_guard.proofs.RunLemmas.{CellIn}
use Rattle.net_guard.specs.Simplified.{IsSimplified, IsSimplifiedSet}

set_reads : (old new : SetLine) → IsSimplifiedSet old new → (port : Text) → Contains (set_ports new) port → Contains (set_ports old) port
set_reads old new s port has = elim (Contains-append_cases (option_ports new.guard) (source_ports new.src) port has) [
  | inl asked ↦ Contains-append_left (option_ports old.guard) (source_ports old.src) port (ports_within port old.guard new.guard s.leaves asked)
  | inr taken ↦ Contains-append_right (option_ports old.guard) (source_ports old.src) port (subst (λ (src : Src Text). Contains (source_ports src) port) s.src taken)
]

reads : (old new : Netlist) → IsSimplified old new → (port other : Text) → ReadsPort new port other → ReadsPort old port other
reads old new s port other (ByAssignment k a at dst has) =
    let (j, b, there, is) = old_set old.sets new.sets s.sets k a at in
    ByAssignment j b there (sym is.dst ∙ dst) (set_reads b a is other has)
reads old new s port other (ByCell cell prim input output of input_of output_of through named read) =
    ByCell cell prim input output (subst (λ (cells : List CellLine). CellIn cells cell prim) s.cells of) input_of output_of through named read

along : (old new : Netlist) → IsSimplified old new → (ports : List Text) (back : Text) → ReadsAlong new ports back → ReadsAlong old ports back
along old new s [] back reads_on = tt
along old new s (p ∷ []) back reads_on = reads old new s p back reads_on
along old new s (p ∷ q ∷ ports) back reads_on = (reads old new s p q reads_on.0, along old new s (q ∷ ports) back reads_on.1)

pub has_no_loop : (old new : Netlist) → IsSimplified old new → HasNoLoop old → HasNoLoop new
has_no_loop old new s none first others loop = none first others (record { along = along old new s (first ∷ others) first loop.along; distinct = loop.distinct })
