-- What a listing of a design's instances is: the design flattened, by rules N1 to N6; and that it has the runs of the design. This project's.
use Rattle.std.specs.Prelude.{Contains}
use Rattle.net_core.specs.Graph.{HasNoLoop}
use Rattle.net_core.specs.Netlist.{Netlist}
use Rattle.net_core.specs.Rules.{IsValid}
use Rattle.cal_ast.specs.CalRun.{StoppedBareRun}
use Rattle.cal_ast.specs.Keeping.{KeepsRuns, NetRuns}
use Rattle.cal_ast.specs.Plain.{HasPlainTree}
use Rattle.cal_ast.specs.Tree.{Component, Design}
use Rattle.cal_ast.specs.Wired.{IsWired}
use Rattle.net_flat.specs.Flattened.{IsFlattened}
use Rattle.net_flat.specs.Listing.{IsListing}

-- the listing has the runs of the design, with the same Conflicts
abbrev pub ListingsAreFlattened : Type 0
ListingsAreFlattened =
    (design : Design) (top : Component) (n : Netlist) → HasPlainTree design → IsWired design → Contains design top → IsListing design top n
    → IsFlattened design top n

-- it keeps N1 to N5
abbrev pub ListingsAreValid : Type 0
ListingsAreValid =
    (design : Design) (top : Component) (n : Netlist) → HasPlainTree design → IsWired design → Contains design top → IsListing design top n → IsValid n

-- and N6
abbrev pub ListingsHaveNoLoop : Type 0
ListingsHaveNoLoop =
    (design : Design) (top : Component) (n : Netlist) → HasPlainTree design → IsWired design → Contains design top → IsListing design top n → HasNoLoop n

-- each run of what is a design flattened is one of the design, with the same stop
abbrev pub FlattenedKeepsRuns : Type 0
FlattenedKeepsRuns = (design : Design) (top : Component) (n : Netlist) → IsFlattened design top n → KeepsRuns (NetRuns n) (StoppedBareRun design top)
