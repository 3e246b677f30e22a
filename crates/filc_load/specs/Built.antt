-- What reading a file makes of its text.
use Rattle.std.specs.Prelude.{◌≡◌, ℕ, ◌<◌, ◌≤◌, List, [], filter, length, map, slice_index_or, All, Contains, Result, Ok, Err}
use Rattle.hw_bits.specs.Values.{widths_of}
use Rattle.hw_names.specs.Name.{Text}
use Rattle.cal_ast.specs.Numbers as calyx_numbers
use Rattle.cal_ast.specs.Rules.{CalRules}
use Rattle.cal_ast.specs.Tree as calyx
use Rattle.cal_ast.specs.declared.tree.CalDesign.{CalDesign}
use Rattle.cal_ast.specs.Written as calyx_written
use Rattle.fil_ast.specs.Limits.{HasSmallOffsets}
use Rattle.fil_ast.specs.Numbers.{HasNumbers as HasNumbersOfNames}
use Rattle.fil_ast.specs.Rules.{FilRules}
use Rattle.fil_ast.specs.Top.{IsTop}
use Rattle.fil_ast.specs.Transactions.{is_of_event}
use Rattle.fil_ast.specs.Tree.{DataPort, Component, design_of}
use Rattle.fil_ast.specs.declared.tree.FilDesign.{FilDesign}
use Rattle.fil_ast.specs.declared.tx.Tx.{Tx}
use Rattle.fil_ast.specs.declared.tx.TxList.{TxList}
use Rattle.fil_parse.specs.Written.{DesignIsWritten}
use Rattle.hw_limits.specs.declared.limits.TheConstants.{MOST_CYCLES}
use Rattle.net_core.specs.Netlist.{Netlist, netlist_of}
use Rattle.net_core.specs.Numbers.{HasNumbers}
use Rattle.net_core.specs.Rules.{IsValid}
use Rattle.net_core.specs.Table.{IsTableOf}
use Rattle.net_core.specs.declared.net.Net.{Net}
use Rattle.net_sim.specs.PortOrder.{IsPortOrderOf}
use Rattle.net_core.specs.declared.stimulus.CycleList.{CycleList}
use Rattle.hw_prims.specs.Table.{pin_widths}
use Rattle.stim_read.specs.CycleRun.{run_seen}
use Rattle.stim_read.specs.TxRun.{tx_run_seen}
use Rattle.stim_read.specs.declared.stim_end.StimEnd.{StimEnd}
use Rattle.filc_load.specs.Given.{FitsMemory, AreSetsFor}
use Rattle.filc_load.specs.CalFile.{GivesCal, IsCalTextOf, IsAcceptedCalTextOf}
use Rattle.filc_load.specs.FilFile.{GivesFil, IsFilTextOf, IsAcceptedFilTextOf}
use Rattle.filc_load.specs.NetFile.{GivesNet, IsTextOf, IsAcceptedTextOf}
use Rattle.filc_stop.specs.Outcome.{Contents}
use Rattle.filc_stop.specs.Stops.{answer_of, refusal_line}
use Rattle.filc_load.specs.Source.{IsRefusedIn, IsSourceRefused}
use Rattle.filc_load.specs.StimulusFile.{FileGivesRun, FileGivesTransactions, IsRefusedBy, IsStimulusRefused, event_name}
use Rattle.filc_stop.specs.declared.language.Language.{Language}
use Rattle.filc_stop.specs.declared.language.Language.TheVariants.{Netlists, Filament, Calyx}
use Rattle.filc_load.specs.declared.cal_file.CalBuilt.{CalBuilt}
use Rattle.filc_load.specs.declared.fil_file.FilBuilt.{FilBuilt}
use Rattle.filc_load.specs.declared.net_file.Built.{Built}
use Rattle.filc_stop.specs.declared.stop.Stop.{Stop}
use Rattle.filc_stop.specs.declared.stop.Stop.TheVariants as stop

-- the netlist is the text's
pub record IsNetOf (text : Text) (net : Net) : Type 0 where
  pub text_of : IsTextOf (netlist_of net) text
  pub numbers : HasNumbers net

-- the netlist keeps N1 to N5, and the table and the order of its ports are its
pub record IsReady (b : Built) : Type 0 where
  pub valid : IsValid (netlist_of b.net)
  pub numbers : HasNumbers b.net
  pub table : IsTableOf (netlist_of b.net) b.table
  pub order : IsPortOrderOf (netlist_of b.net) b.order

-- the text gives this netlist, which is ready to run
pub record IsBuiltFrom (text : Text) (b : Built) : Type 0 where
  pub gives : GivesNet text (netlist_of b.net)
  pub ready : IsReady b

-- a text in this language is refused so, or there was no memory
abbrev pub IsUnbuilt : Language → Text → Stop → Type 0
IsUnbuilt language text (stop.Refused why) = IsRefusedIn language text (answer_of why) (refusal_line why)
IsUnbuilt language text stop.Memory = Unit {0}
IsUnbuilt language text why = ⊥

-- whichever text spells the netlist is refused so, or there was no memory
abbrev pub IsUnfit : Netlist → Stop → Type 0
IsUnfit n why = (text : Text) → IsTextOf n text → IsUnbuilt Netlists text why

-- the same for a netlist that keeps the rules
abbrev pub IsOverweight : Netlist → Stop → Type 0
IsOverweight n why = (text : Text) → IsAcceptedTextOf n text → IsUnbuilt Netlists text why

-- the design is the text's
pub record IsDesignOf (text : Text) (d : FilDesign) : Type 0 where
  pub text_of : IsFilTextOf (design_of d) text
  pub numbers : HasNumbersOfNames d
  pub small : HasSmallOffsets d

-- the design keeps F1 to F14, and this is the number of its top component
pub record IsFilReady (b : FilBuilt) : Type 0 where
  pub numbers : HasNumbersOfNames b.design
  pub small : HasSmallOffsets b.design
  pub rules : FilRules (design_of b.design)
  pub written : DesignIsWritten (design_of b.design)
  pub top : IsTop (design_of b.design) b.top

-- the text gives this design, which later commands may take
pub record IsFilBuiltFrom (text : Text) (b : FilBuilt) : Type 0 where
  pub gives : GivesFil text (design_of b.design)
  pub ready : IsFilReady b

-- whichever text spells the design is refused so, or there was no memory
abbrev pub IsUnfitDesign : FilDesign → Stop → Type 0
IsUnfitDesign d why = (text : Text) → IsFilTextOf (design_of d) text → IsUnbuilt Filament text why

-- the same for a design that keeps the rules
abbrev pub IsOverweightDesign : FilDesign → Stop → Type 0
IsOverweightDesign d why = (text : Text) → IsAcceptedFilTextOf (design_of d) text → IsUnbuilt Filament text why

-- the Calyx design is the text's
pub record IsCalDesignOf (text : Text) (d : CalDesign) : Type 0 where
  pub text_of : IsCalTextOf (calyx.design_of d) text
  pub numbers : calyx_numbers.HasNumbers d

-- the design keeps C1 to C12
pub record IsCalReady (b : CalBuilt) : Type 0 where
  pub numbers : calyx_numbers.HasNumbers b.design
  pub rules : CalRules (calyx.design_of b.design)
  pub written : calyx_written.DesignIsWritten (calyx.design_of b.design)

-- the text gives this design, which later commands may take
pub record IsCalBuiltFrom (text : Text) (b : CalBuilt) : Type 0 where
  pub gives : GivesCal text (calyx.design_of b.design)
  pub ready : IsCalReady b

-- whichever text spells the design is refused so, or there was no memory
abbrev pub IsUnfitCal : CalDesign → Stop → Type 0
IsUnfitCal d why = (text : Text) → IsCalTextOf (calyx.design_of d) text → IsUnbuilt Calyx text why

-- the same for a design that keeps the rules
abbrev pub IsOverweightCal : CalDesign → Stop → Type 0
IsOverweightCal d why = (text : Text) → IsAcceptedCalTextOf (calyx.design_of d) text → IsUnbuilt Calyx text why

-- the file of this name is known, unless it couldn't be read or there was no memory
abbrev pub KnowsFile : {T : Type 0} → List Text → Text → Result T Stop → Type 0
KnowsFile names file (Ok value) = Contains names file
KnowsFile names file (Err (stop.Refused why)) = Contains names file
KnowsFile names file (Err why) = Unit {0}

-- why the file gives no design: it couldn't be read, or it is refused so, or there was no memory
abbrev pub IsUnread : Contents → Language → Text → Stop → Type 0
IsUnread contents language file stop.ReadFault = Unit {0}
IsUnread contents language file (stop.Refused why) = IsSourceRefused contents language file (answer_of why) (refusal_line why)
IsUnread contents language file stop.Memory = Unit {0}
IsUnread contents language file why = ⊥

-- the stimulus of this file gives the netlist this list
abbrev pub IsGivenBy : Contents → Text → Netlist → CycleList → Type 0
IsGivenBy contents stimulus n list = FileGivesRun contents stimulus n (run_seen list)

-- the stimulus of this file gives the component these transactions
abbrev pub AreGivenBy : Contents → Text → Component → TxList → Type 0
AreGivenBy contents stimulus c list = FileGivesTransactions contents stimulus c (tx_run_seen list)

-- its settings and its loads are for the inputs and the shown memories of the netlist
pub record FitsNet (n : Netlist) (list : CycleList) : Type 0 where
  pub sets : AreSetsFor (pin_widths n.ins) list.sets.items
  pub loads : All (FitsMemory n) list.loads.items

-- a transaction of the component: its event is one of the component's, it starts in time, and it has a value for each data
-- input of its event, of that input's width
pub record FitsComponent (c : Component) (tx : Tx) : Type 0 where
  pub event : tx.event < length c.events
  pub start : tx.start ≤ MOST_CYCLES
  pub widths : widths_of tx.values.items ≡ map (λ (p : DataPort). p.width) (filter (is_of_event (event_name c tx.event)) c.ins)

-- why a text gives nothing: one of these causes, or there was no memory
abbrev pub GivesNothing : (StimEnd → Type 0) → Text → Stop → Type 0
GivesNothing causes text (stop.Refused why) = IsRefusedBy causes text (answer_of why) (refusal_line why)
GivesNothing causes text stop.Memory = Unit {0}
GivesNothing causes text why = ⊥

-- why the file of a stimulus gives nothing: it couldn't be read, or it is refused for one of these causes, or there was no memory
abbrev pub IsNotGiven : Contents → Text → (Text → StimEnd → Type 0) → Stop → Type 0
IsNotGiven contents stimulus causes stop.StimulusReadFault = Unit {0}
IsNotGiven contents stimulus causes (stop.Refused why) = IsStimulusRefused contents stimulus causes (answer_of why) (refusal_line why)
IsNotGiven contents stimulus causes stop.Memory = Unit {0}
IsNotGiven contents stimulus causes why = ⊥

-- the names of these ports, in order
abbrev pub AreNamesOf : List Text → List ℕ → List Text → Type 0
AreNamesOf names ports texts = texts ≡ map (λ port. slice_index_or names port []) ports
