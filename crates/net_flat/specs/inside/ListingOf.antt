-- That a netlist lists a design from its top component. This project's.
use Rattle.std.specs.Prelude.{◌≡◌, ℕ, slice_get, Some}
use Rattle.net_core.specs.Netlist.{netlist_of}
use Rattle.net_core.specs.Numbers.{HasNumbers}
use Rattle.net_core.specs.declared.net.Net.{Net}
use Rattle.cal_ast.specs.Top.{IsTop}
use Rattle.cal_ast.specs.Tree.{Component, Design}
use Rattle.net_flat.specs.Listing.{IsListing}

pub record IsListingOf (design : Design) (net : Net) : Type 0 where
  pub place : ℕ
  pub is_top : IsTop design place
  pub top : Component
  pub at : slice_get design place ≡ Some top
  pub listing : IsListing design top (netlist_of net)
  pub numbers : HasNumbers net
