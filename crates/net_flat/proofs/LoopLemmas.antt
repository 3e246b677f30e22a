-- A listing has no loop: along one a port of the design would reach itself.
use Rattle.std.proofs.Common.{List, [], ◌∷◌, Contains}
use Rattle.hw_names.specs.Name.{Text}
use Rattle.net_core.specs.Graph as net
use Rattle.net_core.specs.Netlist.{Netlist}
use Rattle.cal_ast.proofs.PathLoopLemmas.{no_loop_over_paths}
use Rattle.cal_ast.specs.FlatWires.{FlatReaches, FlatAtOnce, FlatOver}
use Rattle.cal_ast.specs.Naming.{Unreserved}
use Rattle.cal_ast.specs.Rules.{KeepsRules}
use Rattle.cal_ast.specs.Tree.{Component, Design}
use Rattle.net_flat.specs.Laws.{ListingsHaveNoLoop}
use Rattle.net_flat.specs.Listing.{IsListing}
use Rattle.net_flat.proofs.StepLemmas.{flat_reads}

-- the first of ports that read along reaches the last that is read
reaches_along : (design : Design) (top : Component) (n : Netlist) → KeepsRules design → Contains design top → IsListing design top n → (first : Text) (others : List Text) (back : Text)
    → net.ReadsAlong n (first ∷ others) back → FlatReaches design top first back
reaches_along design top n keeps has_top listing first [] back along = FlatAtOnce first back (flat_reads design top n keeps has_top listing first back along)
reaches_along design top n keeps has_top listing first (second ∷ others) back along =
    FlatOver first second back (flat_reads design top n keeps has_top listing first second along.0) (reaches_along design top n keeps has_top listing second others back along.1)

pub no_loop_in_listings : ListingsHaveNoLoop
no_loop_in_listings = λ design top n plain wired has_top listing first others loop.
    no_loop_over_paths Unreserved design top plain wired.rules.keeps wired.rules.no_loop has_top first
    (reaches_along design top n wired.rules.keeps has_top listing first others first loop.along)
