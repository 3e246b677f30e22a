-- Each assignment of a valid netlist has a source by number: what a netlist was compiled from without listing them.
use Rattle.std.proofs.Common.{◌≡◌, ℕ, zero, suc, ◌+◌, ◌<◌, ◌≤◌, ◌^◌, List, [], ◌∷◌, Some, length, refl, ap, ◌∙◌, arith, true, nat_lt, All, subst}
use Rattle.std.specs.Prelude.{◌+◌, slice_get, slice_index, Contains}
use Rattle.std.proofs.lemmas.Bool.{and_parts}
use Rattle.std.proofs.lemmas.Bool.Decides.{nat_tests}
use Rattle.std.proofs.lemmas.List.Elements.{All-head}
use Rattle.std.proofs.lemmas.Option.{same_Some, slice_get-get_or, none-some}
use Rattle.hw_names.specs.Name.{Text, AreDistinct}
use Rattle.hw_prims.specs.Table.{is_width}
use Rattle.net_core.specs.Graph.{source_ports}
use Rattle.net_core.specs.Netlist.{Netlist, SetLine, netlist_of}
use Rattle.net_core.specs.Rules.{PortLine, IsValid, ports_of, literal_fits}
use Rattle.net_core.specs.Table.{IsTableOf}
use Rattle.net_core.specs.declared.net.Net.{Net}
use Rattle.net_core.specs.declared.net.Src.{Src}
use Rattle.net_core.specs.declared.net.Src.TheVariants.{Port, Lit}
use Rattle.net_core.specs.declared.table.PortInfo.{PortInfo}
use Rattle.net_core.specs.declared.table.Table.{Table}
use Rattle.net_sim.proofs.PortLemmas.{input_widths}
use Rattle.net_sim.proofs.SourceLemmas.{source_fits}
use Rattle.net_sim.proofs.ValidLemmas.{source_there}
use Rattle.std.proofs.lemmas.List.{length-map}
use Rattle.net_sim.specs.Compiled.{IsSource, givers_of}
use Rattle.net_sim.specs.Layout.{port_names, port_widths, AreCellPorts}
use Rattle.net_sim.specs.OrderValue.{OrderValue}
use Rattle.net_sim.specs.Plan.{IsCompiled}
use Rattle.net_sim.specs.PortOrder.{IsPortOrderOf}
use Rattle.net_sim.specs.Shown.{AreShown}
use Rattle.net_sim.specs.Sim.{IsNewSim}
use Rattle.net_sim.specs.declared.cells.CellPorts.{CellPorts}
use Rattle.net_sim.specs.declared.plan.Source.{Source}
use Rattle.net_sim.specs.declared.plan.Source.TheVariants.{Slot, Fixed}
use Rattle.net_sim.specs.declared.sim.Phase.TheVariants.{Fresh}
use Rattle.net_steps.specs.declared.other.Other.{Other as OtherCell}
use Rattle.net_row.proofs.FlatRowLemmas.{zeros_fit}
use Rattle.net_row.proofs.FlatSimLemmas.{of_place, widths_narrow, new_keeps, new_sim}
use Rattle.net_row.specs.Flats.{AreOthers, AreOpeningOthers, FitWidths, IsBuilt, AreKept, states_from, values_from}
use Rattle.net_row.specs.Kinds.{kept_in, kinds_of}
use Rattle.net_row.specs.declared.kinds.Kind.{Kind}
use Rattle.net_row.specs.Places.{HaveRoom}
use Rattle.net_row.specs.Programs.{AreFit, AreProgramsOf, IsFit, program_at}
use Rattle.net_row.specs.declared.programs.Programs.{Programs}
use Rattle.net_row.specs.Program.{IsProgram}
use Rattle.net_row.specs.declared.program.Program.{Program}

literal_parts : (width value : ℕ) → is_width width ≡ true → nat_lt value (2 ^ width) ≡ true → (1 ≤ width) × (width ≤ 128) × (value < 2 ^ width)
literal_parts width value wide fits = grind (arith, nat_tests)

-- the source of an assignment
source_of : (names : List Text) (src : Src Text) → All (Contains names) (source_ports src) → literal_fits src ≡ true → (s : Source) × IsSource names src s
source_of names (Port p) there fits =
    let has : Contains names p = All-head (Contains names) p [] there in
    (Slot has.0, slice_get-get_or names has.0 p has.1 ∙ ap Some has.2)
source_of names (Lit width value) there fits =
    let both = and_parts (is_width width) (nat_lt value (2 ^ width)) fits in
    let parts = literal_parts width value both.0 both.1 in
    (Fixed (record { value = value; width = width; wide = parts.0; narrow = parts.1; fits = parts.2 }), (refl, refl))

-- one for each of several assignments
pub record HaveSources (names : List Text) (sets : List SetLine) : Type 0 where
  pub sources : List Source
  pub all : length sources ≡ length sets
  pub each : (k : ℕ) (a : SetLine) (s : Source) → slice_get sets k ≡ Some a → slice_get sources k ≡ Some s → IsSource names a.src s

one_more : (names : List Text) (b : SetLine) (sets : List SetLine) → ((s : Source) × IsSource names b.src s) → HaveSources names sets → HaveSources names (b ∷ sets)
one_more names b sets first rest = record {
  sources = first.0 ∷ rest.sources;
  all = ap suc rest.all;
  each = each;
}
  where
    each : (k : ℕ) (a : SetLine) (s : Source) → slice_get (b ∷ sets) k ≡ Some a → slice_get (first.0 ∷ rest.sources) k ≡ Some s → IsSource names a.src s
    each zero a s at here = subst (λ (x : SetLine). IsSource names x.src s) (same_Some b a at) (subst (IsSource names b.src) (same_Some first.0 s here) first.1)
    each (suc k) a s at here = rest.each k a s at here

each_source_of : (names : List Text) (sets : List SetLine) → ((k : ℕ) (a : SetLine) → slice_get sets k ≡ Some a → (s : Source) × IsSource names a.src s) → HaveSources names sets
each_source_of names [] one = record { sources = []; all = refl; each = λ k a s at. absurd (none-some a at) }
each_source_of names (b ∷ sets) one = one_more names b sets (one 0 b refl) (each_source_of names sets (λ k a at. one (suc k) a at))

pub have_sources : (n : Netlist) → IsValid n → HaveSources (port_names n) n.sets
have_sources n valid = each_source_of (port_names n) n.sets (λ k a at. source_of (port_names n) a.src (source_there n valid k a at) (source_fits n valid k a at))

-- a netlist with its order and its cells is compiled
pub record HasCompiled (n : Netlist) (order : OrderValue) (cells : List CellPorts) : Type 0 where
  pub sources : List Source
  pub compiled : IsCompiled n order cells sources (givers_of n cells)

pub has_compiled : (n : Netlist) → IsValid n → AreDistinct (port_names n) → (order : OrderValue) → IsPortOrderOf n order → (cells : List CellPorts) → AreCellPorts n cells → HasCompiled n order cells
has_compiled n valid distinct order ordered cells listed =
    let have = have_sources n valid in
    record {
      sources = have.sources;
      compiled = record {
        valid = valid;
        distinct = distinct;
        ordered = ordered;
        listed = listed;
        sourced = record { all = have.all; each = have.each };
        given = refl;
      };
    }

-- the inputs of each cell are among the ports
pub have_room : (n : Netlist) → IsValid n → (cells : List CellPorts) → AreCellPorts n cells → (count : ℕ) → count ≡ length (port_names n) → HaveRoom count cells
have_room n valid cells listed count e k c at = omega (arith, e, (input_widths n valid cells listed k c at).0, length-map (ports_of n) (λ (p : PortLine). p.name), length-map (ports_of n) (λ (p : PortLine). p.width))

-- ---- a new simulation

-- what a netlist was compiled to, with these cells
pub record HasBuilt (n : Netlist) (table : Table) (kinds : List Kind) (program : Program) (shown : List ℕ) (cells : List CellPorts) : Type 0 where
  pub built : IsBuilt n table kinds program shown
  pub cells_are : cells ≡ built.cells

pub has_built : (n : Netlist) → IsValid n → (table : Table) → IsTableOf n table → AreDistinct table.names → (order : OrderValue) → IsPortOrderOf n order → (cells : List CellPorts) → AreCellPorts n cells → (kinds : List Kind) → kinds ≡ kinds_of cells → (program : Program) → IsProgram n cells program → (shown : List ℕ) → AreShown n shown → All (λ (p : PortInfo). p.width ≤ 64) table.ports.items → HasBuilt n table kinds program shown cells
has_built n valid table is distinct order ordered cells listed kinds kinds_are program program_is shown are narrow =
    let has = has_compiled n valid (subst AreDistinct is.names distinct) order ordered cells listed in
    record {
      built = record {
        order = order;
        cells = cells;
        sources = has.sources;
        givers = givers_of n cells;
        compiled = has.compiled;
        table_is = is;
        kinds_are = kinds_are;
        shown_are = are;
        program_is = program_is;
        narrow = widths_narrow n valid cells listed table is narrow;
      };
      cells_are = refl;
    }

pub record IsNewFlat (net : Net) (table : Table) (kinds : List Kind) (programs : Programs) (place : ℕ) (shown : List ℕ) (others : List OtherCell) (kept slots : List ℕ) : Type 0 where
  pub built : IsBuilt (netlist_of net) table kinds (program_at programs place) shown
  pub are : AreKept (netlist_of net) built.cells kinds (program_at programs place) others kept slots
  pub values : FitWidths (port_widths (netlist_of net)) (values_from (program_at programs place) slots)
  pub programs_are : AreProgramsOf (netlist_of net) built.cells programs
  pub fit : AreFit (kept_in built.cells + length (netlist_of net).ins) others programs
  pub new : IsNewSim net (record { net = net; states = states_from kinds kept others; values = values_from (program_at programs place) slots; phase = Fresh })

pub is_new_flat : (net : Net) (table : Table) (kinds : List Kind) (programs : Programs) (place : ℕ) (shown : List ℕ) (cells : List CellPorts) → HasBuilt (netlist_of net) table kinds (program_at programs place) shown cells → AreProgramsOf (netlist_of net) cells programs → (others : List OtherCell) (kept slots : List ℕ) → AreOthers cells others → AreFit (kept_in cells + length (netlist_of net).ins) others programs → AreOpeningOthers others → ((k : ℕ) → slice_index kept k ≡ 0) → ((k : ℕ) → slice_index slots k ≡ 0) → length kept ≡ kept_in cells → programs.room ≡ length slots → IsNewFlat net table kinds programs place shown others kept slots
is_new_flat net table kinds programs place shown cells has programs_are others kept slots are fit opening no_kept no_slots kept_all room =
    let are_built = subst (λ (cs : List CellPorts). AreOthers cs others) has.cells_are are in
    let fit_built : AreFit (kept_in has.built.cells + length (netlist_of net).ins) others programs = subst (λ (cs : List CellPorts). AreFit (kept_in cs + length (netlist_of net).ins) others programs) has.cells_are fit in
    let here = of_place (IsFit (kept_in has.built.cells + length (netlist_of net).ins) programs.room others) programs fit_built.general fit_built.cases place in
    record {
      built = has.built;
      are = new_keeps net table kinds (program_at programs place) shown has.built others kept slots are_built opening no_kept (kept_all ∙ ap kept_in has.cells_are) (omega (arith, here.within, room)) here.sound;
      values = zeros_fit (netlist_of net) table kinds (program_at programs place) shown has.built slots no_slots;
      programs_are = subst (λ (cs : List CellPorts). AreProgramsOf (netlist_of net) cs programs) has.cells_are programs_are;
      fit = fit_built;
      new = new_sim net table kinds (program_at programs place) shown has.built others kept slots are_built opening no_kept;
    }
