-- The levels of a design's instances make a listing, and a listing by the laws is the design flattened from its top.
use Rattle.std.proofs.Common.{◌≡◌, ◌≢◌, List, [], ◌∷◌, length, All, AllPairs, Contains, Some, sym, subst}
use Rattle.hw_names.specs.Name.{Path}
use Rattle.cal_ast.proofs.ListLemmas.{Contains-at, Contains-there}
use Rattle.cal_ast.specs.Instances.{component_at}
use Rattle.cal_ast.specs.Plain.{HasPlainTree}
use Rattle.cal_ast.specs.Rules.{KeepsRules}
use Rattle.cal_ast.specs.Tree.{Component, Design}
use Rattle.cal_ast.specs.Wired.{IsWired}
use Rattle.net_core.specs.Netlist.{netlist_of}
use Rattle.net_core.specs.declared.net.Net.{Net}
use Rattle.net_flat.specs.FlatTop.{IsFlatTop}
use Rattle.net_flat.specs.Laws.{ListingsAreFlattened, ListingsAreValid, ListingsHaveNoLoop}
use Rattle.net_flat.specs.inside.Levels.{levels}
use Rattle.net_flat.specs.Listing.{Instance}
use Rattle.net_flat.specs.inside.ListingOf.{IsListingOf}
use Rattle.net_flat.proofs.LevelLemmas.{found_in_level, level_in_levels, levels_once, stands_in_levels}
use Rattle.net_flat.proofs.ListFacts.{All-from_Contains}
use Rattle.net_flat.proofs.ShortPaths.{short_path}

-- what a listing says of its instances
pub record ListsAll (design : Design) (top : Component) (others : List Instance) : Type 0 where
  pub found : (path : Path) (c : Component) → component_at design top path ≡ Some c → Contains (([], top) ∷ others) (path, c)
  pub listed : All (λ (i : Instance). component_at design top i.0 ≡ Some i.1) others
  pub once : AllPairs (λ (i j : Instance). i.0 ≢ j.0) (([], top) ∷ others)

-- the instances of all levels are all instances
pub levels_list_all : (design : Design) (top : Component) (others : List Instance) → KeepsRules design → Contains design top → levels design top (length design) ≡ ([], top) ∷ others → ListsAll design top others
levels_list_all design top others keeps there same =
    record {
      found = λ path c at.
          subst (λ (is : List Instance). Contains is (path, c)) same
          (level_in_levels design top (length path) (length design) (path, c) (short_path design keeps path top c there at) (found_in_level design top keeps there path c at));
      listed = All-from_Contains (λ (i : Instance). component_at design top i.0 ≡ Some i.1) others
          (λ i here.
          (stands_in_levels design top keeps there (length design) i
          (subst (λ (is : List Instance). Contains is i) (sym same) (Contains-there ([], top) others i here))).at);
      once = subst (AllPairs (λ (i j : Instance). i.0 ≢ j.0)) same (levels_once design top keeps there (length design));
    }

-- by the laws a listing of the design from its top is the design flattened
pub flat_from_listing : (design : Design) (net : Net) → ListingsAreFlattened → ListingsAreValid → ListingsHaveNoLoop → HasPlainTree design → IsWired design → IsListingOf design net → IsFlatTop design net
flat_from_listing design net flattened valid no_loop plain wired l =
    let there = Contains-at design l.place l.top l.at in
    record {
      place = l.place;
      is_top = l.is_top;
      top = l.top;
      at = l.at;
      listed = l.listing;
      flattened = flattened design l.top (netlist_of net) plain wired there l.listing;
      numbers = l.numbers;
      valid = valid design l.top (netlist_of net) plain wired there l.listing;
      no_loop = no_loop design l.top (netlist_of net) plain wired there l.listing;
    }
