-- Inputs are split into interface ports and data ports, one after the other.
use Rattle.std.proofs.Common.{◌≡◌, ℕ, ◌+◌, ◌<◌, List, [], ◌∷◌, ◌++◌, length, map, take, get_or, refl, sym, ap, ◌∙◌}
use Rattle.std.proofs.lemmas.List.{map_push, take_more}
use Rattle.hw_names.specs.Name.{Text}
use Rattle.fil_ast.specs.declared.tree.GoPort.{GoPort}
use Rattle.fil_ast.specs.declared.tree.FilPort.{FilPort}
use Rattle.fil_ast.specs.Tree.{Interface, DataPort, interface_tree, port_tree}
use Rattle.fil_parse.specs.declared.input.InputPort.{InputPort}
use Rattle.fil_parse.specs.Grammar.{Input, InterfacePort, DataInput, interfaces_of, data_of}
use Rattle.fil_parse.specs.inside.Inputs.{input_tree}

interfaces_push : (xs : List Input) (x : Input) → interfaces_of (xs ++ x ∷ []) ≡ interfaces_of xs ++ interfaces_of (x ∷ [])
interfaces_push [] x = refl
interfaces_push (InterfacePort p ∷ xs) x = ap (λ (t : List Interface). p ∷ t) (interfaces_push xs x)
interfaces_push (DataInput p ∷ xs) x = interfaces_push xs x

data_push : (xs : List Input) (x : Input) → data_of (xs ++ x ∷ []) ≡ data_of xs ++ data_of (x ∷ [])
data_push [] x = refl
data_push (InterfacePort p ∷ xs) x = data_push xs x
data_push (DataInput p ∷ xs) x = ap (λ (t : List DataPort). p ∷ t) (data_push xs x)

next_of : (names : List Text) (xs : List InputPort) (i : ℕ) (d x : InputPort) → i < length xs → get_or xs i d ≡ x → map (input_tree names) (take (i + 1) xs) ≡ map (input_tree names) (take i xs) ++ input_tree names x ∷ []
next_of names xs i d x lt e =
    ap (map (input_tree names)) (take_more xs i d lt ∙ ap (λ (y : InputPort). take i xs ++ y ∷ []) e) ∙ map_push (input_tree names) (take i xs) x

pub interfaces_next : (names : List Text) (xs : List InputPort) (i : ℕ) (d x : InputPort) (ports : List GoPort) → i < length xs → get_or xs i d ≡ x → map (interface_tree names) ports ≡ interfaces_of (map (input_tree names) (take i xs))
    → interfaces_of (map (input_tree names) (take (i + 1) xs)) ≡ map (interface_tree names) ports ++ interfaces_of (input_tree names x ∷ [])
interfaces_next names xs i d x ports lt e so_far =
    ap interfaces_of (next_of names xs i d x lt e) ∙ interfaces_push (map (input_tree names) (take i xs)) (input_tree names x) ∙ ap (λ (t : List Interface). t ++ interfaces_of (input_tree names x ∷ [])) (sym so_far)

pub data_next : (names : List Text) (xs : List InputPort) (i : ℕ) (d x : InputPort) (ports : List FilPort) → i < length xs → get_or xs i d ≡ x → map (port_tree names) ports ≡ data_of (map (input_tree names) (take i xs))
    → data_of (map (input_tree names) (take (i + 1) xs)) ≡ map (port_tree names) ports ++ data_of (input_tree names x ∷ [])
data_next names xs i d x ports lt e so_far =
    ap data_of (next_of names xs i d x lt e) ∙ data_push (map (input_tree names) (take i xs)) (input_tree names x) ∙ ap (λ (t : List DataPort). t ++ data_of (input_tree names x ∷ [])) (sym so_far)
