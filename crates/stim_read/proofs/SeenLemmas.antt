-- Members and items, as they are seen one by one.
use Rattle.std.proofs.Common.{◌≡◌, List, [], ◌∷◌, map, String, Global, refl, ap}
use Rattle.serde_json.specs.Data.{Data}
use Rattle.serde_json.specs.View.{view, items_view, members_view}
use Rattle.serde_json.specs.declared.value.Value.{Value}
use Rattle.stim_read.specs.Parts.{Member, members_of, items_of, member_seen}

pub members_seen : (es : List (String Global × Value)) → members_of (members_view es) ≡ map member_seen es
members_seen [] = refl
members_seen (e ∷ es) = ap (λ (ms : List Member). member_seen e ∷ ms) (members_seen es)

pub items_seen : (vs : List Value) → items_of (items_view vs) ≡ map view vs
items_seen [] = refl
items_seen (v ∷ vs) = ap (λ (ds : List Data). view v ∷ ds) (items_seen vs)
