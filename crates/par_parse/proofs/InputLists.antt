-- Inputs are split into interface ports and data ports, one after the other.
use Rattle.std.proofs.Common.{◌≡◌, List, [], ◌∷◌, ◌++◌, refl, sym, ap, ◌∙◌}
use Rattle.par_parse.specs.Tree.{InterfaceTree, PortTree}
use Rattle.par_parse.specs.Grammar.{InputTree, InterfacePort, DataInput, interfaces_of, data_of}

interfaces_push : (xs : List InputTree) (x : InputTree) → interfaces_of (xs ++ x ∷ []) ≡ interfaces_of xs ++ interfaces_of (x ∷ [])
interfaces_push [] x = refl
interfaces_push (InterfacePort p ∷ xs) x = ap (λ (t : List InterfaceTree). p ∷ t) (interfaces_push xs x)
interfaces_push (DataInput p ∷ xs) x = interfaces_push xs x

data_push : (xs : List InputTree) (x : InputTree) → data_of (xs ++ x ∷ []) ≡ data_of xs ++ data_of (x ∷ [])
data_push [] x = refl
data_push (InterfacePort p ∷ xs) x = data_push xs x
data_push (DataInput p ∷ xs) x = ap (λ (t : List PortTree). p ∷ t) (data_push xs x)

pub interfaces_next : (front : List InputTree) (x : InputTree) (old new : List InterfaceTree) → old ≡ interfaces_of front → new ≡ old ++ interfaces_of (x ∷ []) → new ≡ interfaces_of (front ++ x ∷ [])
interfaces_next front x old new e f = f ∙ ap (λ (o : List InterfaceTree). o ++ interfaces_of (x ∷ [])) e ∙ sym (interfaces_push front x)

pub data_next : (front : List InputTree) (x : InputTree) (old new : List PortTree) → old ≡ data_of front → new ≡ old ++ data_of (x ∷ []) → new ≡ data_of (front ++ x ∷ [])
data_next front x old new e f = f ∙ ap (λ (o : List PortTree). o ++ data_of (x ∷ [])) e ∙ sym (data_push front x)
