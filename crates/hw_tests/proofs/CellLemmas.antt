-- What is told of cells.
use Rattle.std.proofs.Common.{ℕ, List, Option, Some, None, sym}
use Rattle.std.specs.Borrow.{Bor}
use Rattle.std.specs.Prelude.{All, IfSome}
use Rattle.std.specs.Slice.{IsItemAt}
use Rattle.std.proofs.lemmas.List.Elements.{All-contains}

-- what holds of all holds of the one that is lent
pub lent_too : {X : Type 0} (P : X → Type 0) (xs : List X) (i : ℕ) (r : Option (Bor X)) → All P xs → IsItemAt xs i r → IfSome r (λ (x : Bor X). P x.now)
lent_too P xs i None all h = tt
lent_too P xs i (Some x) all h = All-contains P xs x.now all (i, h.3.0, sym h.1)
