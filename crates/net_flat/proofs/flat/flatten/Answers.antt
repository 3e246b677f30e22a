use Rattle.std.proofs.lemmas.Result.{IfOk-weaker}
use Rattle.cal_ast.specs.Tree.{design_of}
use Rattle.net_flat.specs.FlatTop.{IsFlatTop}
use Rattle.net_flat.specs.inside.ListingOf.{IsListingOf}
use Rattle.net_flat.proofs.FlatLemmas.{listings_are_flattened}
use Rattle.net_flat.proofs.LevelListingLemmas.{flat_from_listing}
use Rattle.net_flat.proofs.LoopLemmas.{no_loop_in_listings}
use Rattle.net_flat.proofs.ValidLemmas.{listing_is_valid}
use Rattle.net_flat.proofs.flat.flatten.Goals as goal

pub returns : goal.returns
returns c =
    let d = c.args.wired.now.design in
    IfOk-weaker c.list_design.result (IsListingOf (design_of d)) (IsFlatTop (design_of d))
    (λ net listing. flat_from_listing (design_of d) net listings_are_flattened listing_is_valid no_loop_in_listings c.requires.plain c.requires.wired listing) c.list_design.ensures
