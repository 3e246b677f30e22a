-- The netlist of a design's top component. This project's.
use Rattle.std.specs.Prelude.{◌≡◌, ℕ, slice_get, Some}
use Rattle.net_core.specs.Graph.{HasNoLoop}
use Rattle.net_core.specs.Netlist.{netlist_of}
use Rattle.net_core.specs.Numbers.{HasNumbers}
use Rattle.net_core.specs.Rules.{IsValid}
use Rattle.net_core.specs.declared.net.Net.{Net}
use Rattle.cal_ast.specs.Top.{IsTop}
use Rattle.cal_ast.specs.Tree.{Component, Design}
use Rattle.net_flat.specs.Flattened.{IsFlattened}
use Rattle.net_flat.specs.Listing.{IsListing}

-- the netlist lists the instances of the design from its top, is the design flattened, and keeps N1 to N6
pub record IsFlatTop (design : Design) (net : Net) : Type 0 where
  pub place : ℕ
  pub is_top : IsTop design place
  pub top : Component
  pub at : slice_get design place ≡ Some top
  pub listed : IsListing design top (netlist_of net)
  pub flattened : IsFlattened design top (netlist_of net)
  pub numbers : HasNumbers net
  pub valid : IsValid (netlist_of net)
  pub no_loop : HasNoLoop (netlist_of net)
