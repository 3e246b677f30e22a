-- What is told of cells that are made of a component.
use Rattle.std.proofs.Common.{◌≡◌, ℕ, List, [], ◌++◌, Option, Some, None, All, Contains, length, drop, take, sym, ap, subst, arith}
use Rattle.std.specs.Borrow.{Bor}
use Rattle.std.specs.Prelude.{IfSome}
use Rattle.std.proofs.lemmas.List.Elements.{All-append, All-contains, All-drop, All-take}
use Rattle.hw_cells.specs.Cells.{IsAskable, IsTold}
use Rattle.hw_cells.specs.declared.told.Told.{Told}

-- nothing is told
pub none_told : (reads : List (List ℕ)) (told : List Told) → told ≡ [] → All (IsTold reads) told
none_told reads told nothing =
    let none : All (IsTold reads) [] = λ k d lt. absurd (omega (arith, lt)) in
    subst (λ (l : List Told). All (IsTold reads) l) (sym nothing) none

-- what is told of a cell is right of its graph, where all that is told is
pub told_rightly : (reads cell : List (List ℕ)) (all : List Told) → All (IsTold reads) all → cell ≡ reads → (told : Option (Bor Told)) → IfSome told (λ (t : Bor Told). Contains all t.now) → IfSome told (λ (t : Bor Told). IsTold cell t.now)
told_rightly reads cell all right same None has = has
told_rightly reads cell all right same (Some t) has = subst (λ (l : List (List ℕ)). IsTold l t.now) (sym same) (All-contains (IsTold reads) all t.now right has)

-- what is told of cells that were told of is right, whatever is kept of those before: nothing was told of them
pub told_all : (reads : List (List ℕ)) (nodes count : ℕ) (old new : List Told) → All (IsAskable nodes) old → All (IsTold reads) new → All (IsTold reads) (take count (new ++ drop (length new) old))
told_all reads nodes count old new askable told =
    let were : All (IsTold reads) old = λ k d lt. (λ bit place b p. absurd (omega (arith, p, ap length (askable k d lt).untold))) in
    All-take (IsTold reads) count (new ++ drop (length new) old) (All-append (IsTold reads) new (drop (length new) old) told (All-drop (IsTold reads) (length new) old were))
