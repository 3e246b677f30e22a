-- Texts put one after the other.
use Rattle.std.proofs.Common.{◌≡◌, ℕ, ◌+◌, ◌≤◌, ◌<◌, List, [], ◌∷◌, ◌++◌, length, map, take, get_or, codes, decimal, Result, Ok, Err, OnOk, refl, sym, ap, ◌∙◌, append_assoc, arith}
use Rattle.std.specs.List.{flat_map}
use Rattle.std.proofs.lemmas.List.Concat.{flat_map-append}
use Rattle.std.proofs.lemmas.List.{append-nil, take_more}
use Rattle.hw_names.specs.Name.{Text, text_of}
use Rattle.fil_ast.specs.declared.tree.Time.{Time}
use Rattle.fil_ast.specs.declared.tree.GoPort.{GoPort}
use Rattle.fil_ast.specs.declared.tree.FilPort.{FilPort}
use Rattle.fil_ast.specs.declared.tree.FilComp.{FilComp}
use Rattle.fil_ast.specs.declared.tree.FilDesign.{FilDesign}
use Rattle.fil_ast.specs.declared.tree.Value.{Value}
use Rattle.fil_ast.specs.Tree.{time_tree, event_tree, interface_tree, port_tree, value_tree, giving, statement_tree, component_tree, design_of}
use Rattle.fil_parse.specs.Grammar.{Input, InterfacePort, DataInput}
use Rattle.fil_parse.specs.Layout.{joined, time_text, value_text, call_text, params_text, line_text, event_text, interface_text, port_text, input_text, inputs_of, component_text, fil_text}

-- what was put, said in another way
pub OnOk-is : {A E : Type 0} (r : Result A E) (new text other : Text) → OnOk r (new ≡ text) → text ≡ other → OnOk r (new ≡ other)
OnOk-is (Ok x) new text other h e = h ∙ e
OnOk-is (Err x) new text other h e = h

flat_map-map : {X Y : Type 0} (f : Y → Text) (g : X → Y) (xs : List X) → flat_map f (map g xs) ≡ flat_map (λ x. f (g x)) xs
flat_map-map f g [] = refl
flat_map-map f g (x ∷ xs) = ap (λ (t : Text). f (g x) ++ t) (flat_map-map f g xs)

joined-map : {X Y : Type 0} (f : Y → Text) (g : X → Y) (xs : List X) → joined f (map g xs) ≡ joined (λ x. f (g x)) xs
joined-map f g [] = refl
joined-map f g (x ∷ xs) = ap (λ (t : Text). f (g x) ++ t) (flat_map-map (λ y. codes ", " ++ f y) g xs)

five : (a b c d e p q r s t : Text) → b ≡ a ++ p → c ≡ b ++ q → d ≡ c ++ r → e ≡ d ++ s → e ++ t ≡ a ++ (p ++ q ++ r ++ s ++ t)
five a b c d e p q r s t h1 h2 h3 h4 = rw (h4, h3, h2, h1) (simp append_assoc)

pub params_put : (params : List ℕ) (a b c : Text) → 1 ≤ length params → b ≡ a ++ codes "[" → c ≡ b ++ joined decimal params → c ++ codes "]" ≡ a ++ params_text params
params_put [] a b c some p q = absurd (omega arith)
params_put (x ∷ xs) a b c some p q = rw (q, p) (simp append_assoc)

pub call_put : (names : List Text) (at : List Time) (args : List Value) (a b c d e : Text) → b ≡ a ++ codes "<" → c ≡ b ++ joined (λ t. time_text (time_tree names t)) at → d ≡ c ++ codes ">(" → e ≡ d ++ joined (λ v. value_text (value_tree names v)) args
    → e ++ codes ")" ≡ a ++ call_text (giving names at args)
call_put names at args a b c d e p q r s =
    let t : Text = joined (λ t. time_text (time_tree names t)) at in
    let v : Text = joined (λ v. value_text (value_tree names v)) args in
    five a b c d e (codes "<") t (codes ">(") v (codes ")") p q r s
    ∙ ap (λ (x : Text). a ++ (codes "<" ++ x ++ codes ">(" ++ v ++ codes ")")) (sym (joined-map time_text (time_tree names) at))
    ∙ ap (λ (x : Text). a ++ (codes "<" ++ joined time_text (map (time_tree names) at) ++ codes ">(" ++ x ++ codes ")")) (sym (joined-map value_text (value_tree names) args))

-- one more of a list, after a comma
pub more_put : {X : Type 0} (text : X → Text) (xs : List X) (i : ℕ) (d x : X) (before out mid new : Text) → i < length xs → get_or xs i d ≡ x → out ≡ before ++ flat_map (λ y. codes ", " ++ text y) (take i xs) → mid ≡ out ++ codes ", " → new ≡ mid ++ text x
    → new ≡ before ++ flat_map (λ y. codes ", " ++ text y) (take (i + 1) xs)
more_put text xs i d x before out mid new lt e so_far p q =
    let more : _ → Text = λ y. codes ", " ++ text y in
    let next : flat_map more (take (i + 1) xs) ≡ flat_map more (take i xs) ++ (codes ", " ++ text x) =
    ap (flat_map more) (take_more xs i d lt ∙ ap (λ (y : _). take i xs ++ y ∷ []) e) ∙ flat_map-append more (take i xs) (x ∷ []) ∙ ap (λ (t : Text). flat_map more (take i xs) ++ t) (append-nil (codes ", " ++ text x)) in
    rw (q, p, so_far, next) (append_assoc (before ++ flat_map more (take i xs)) (codes ", ") (text x) ∙ append_assoc before (flat_map more (take i xs)) (codes ", " ++ text x))

abbrev pub own_interfaces : List Text → List GoPort → List Input
own_interfaces names gos = map (λ (g : GoPort). InterfacePort (interface_tree names g)) gos

abbrev pub own_data : List Text → List FilPort → List Input
own_data names ins = map (λ (p : FilPort). DataInput (port_tree names p)) ins

pub no_interface : (names : List Text) (gos : List GoPort) (ins : List FilPort) → length gos ≤ 0 → joined (λ p. port_text (port_tree names p)) ins ≡ joined input_text (own_interfaces names gos ++ own_data names ins)
no_interface names [] ins none = sym (joined-map input_text (λ (p : FilPort). DataInput (port_tree names p)) ins)
no_interface names (g ∷ gos) ins none = absurd (omega arith)

pub interfaces_first : (names : List Text) (gos : List GoPort) (ins : List FilPort) → 1 ≤ length gos
    → joined (λ g. interface_text (interface_tree names g)) gos ++ flat_map (λ p. codes ", " ++ port_text (port_tree names p)) ins ≡ joined input_text (own_interfaces names gos ++ own_data names ins)
interfaces_first names [] ins some = absurd (omega arith)
interfaces_first names (g ∷ gos) ins some =
    let first : Text = interface_text (interface_tree names g) in
    let more : Input → Text = λ y. codes ", " ++ input_text y in
    append_assoc first (flat_map (λ g. codes ", " ++ interface_text (interface_tree names g)) gos) (flat_map (λ p. codes ", " ++ port_text (port_tree names p)) ins)
    ∙ ap (λ (t : Text). first ++ (t ++ flat_map (λ p. codes ", " ++ port_text (port_tree names p)) ins)) (sym (flat_map-map more (λ (g : GoPort). InterfacePort (interface_tree names g)) gos))
    ∙ ap (λ (t : Text). first ++ (flat_map more (own_interfaces names gos) ++ t)) (sym (flat_map-map more (λ (p : FilPort). DataInput (port_tree names p)) ins))
    ∙ ap (λ (t : Text). first ++ t) (sym (flat_map-append more (own_interfaces names gos) (own_data names ins)))

-- ---- components

eleven : (a b c d e f g h i j k l m n o p q r s t u v : Text) → b ≡ a ++ l → c ≡ b ++ m → d ≡ c ++ n → e ≡ d ++ o → f ≡ e ++ p → g ≡ f ++ q → h ≡ g ++ r → i ≡ h ++ s → j ≡ i ++ t → k ≡ j ++ u
    → k ++ v ≡ a ++ (l ++ m ++ n ++ o ++ p ++ q ++ r ++ s ++ t ++ u ++ v)
eleven a b c d e f g h i j k l m n o p q r s t u v h1 h2 h3 h4 h5 h6 h7 h8 h9 h10 = rw (h10, h9, h8, h7, h6, h5, h4, h3, h2, h1) (simp append_assoc)

map-map : {X Y Z : Type 0} (f : Y → Z) (g : X → Y) (xs : List X) → map f (map g xs) ≡ map (λ x. f (g x)) xs
map-map f g [] = refl
map-map {Z = Z} f g (x ∷ xs) = ap (λ (t : List Z). f (g x) ∷ t) (map-map f g xs)

inputs_same : (names : List Text) (c : FilComp) → inputs_of (component_tree names c) ≡ own_interfaces names c.gos.items ++ own_data names c.ins.items
inputs_same names c =
    ap (λ (t : List Input). t ++ map DataInput (map (port_tree names) c.ins.items)) (map-map InterfacePort (interface_tree names) c.gos.items)
    ∙ ap (λ (t : List Input). own_interfaces names c.gos.items ++ t) (map-map DataInput (port_tree names) c.ins.items)

-- the parts of a component's text
parts : Text → Text → Text → Text → Text → Text
parts name events inputs outs lines = codes "comp " ++ name ++ codes "<" ++ events ++ codes ">(" ++ inputs ++ codes ") -> (" ++ outs ++ codes ") {" ++ lines ++ codes "\n}"

same_parts : (names : List Text) (c : FilComp) → parts (text_of names c.name) (joined (λ e. event_text (event_tree names e)) c.events.items) (joined input_text (own_interfaces names c.gos.items ++ own_data names c.ins.items))
    (joined (λ p. port_text (port_tree names p)) c.outs.items) (flat_map (λ s. line_text (statement_tree names s)) c.body.items) ≡ component_text (component_tree names c)
unfolding parts
same_parts names c =
    let name = text_of names c.name in
    let inputs : Text = joined input_text (own_interfaces names c.gos.items ++ own_data names c.ins.items) in
    let outs : Text = joined (λ p. port_text (port_tree names p)) c.outs.items in
    let lines : Text = flat_map (λ s. line_text (statement_tree names s)) c.body.items in
    ap (λ (t : Text). parts name t inputs outs lines) (sym (joined-map event_text (event_tree names) c.events.items))
    ∙ ap (λ (t : List Input). parts name (joined event_text (map (event_tree names) c.events.items)) (joined input_text t) outs lines) (sym (inputs_same names c))
    ∙ ap (λ (t : Text). parts name (joined event_text (map (event_tree names) c.events.items)) (joined input_text (inputs_of (component_tree names c))) t lines) (sym (joined-map port_text (port_tree names) c.outs.items))
    ∙ ap (λ (t : Text). parts name (joined event_text (map (event_tree names) c.events.items)) (joined input_text (inputs_of (component_tree names c))) (joined port_text (map (port_tree names) c.outs.items)) t) (sym (flat_map-map line_text (statement_tree names) c.body.items))

pub component_put : (names : List Text) (comp : FilComp) (a b c d e f g h i j k : Text) → b ≡ a ++ codes "comp " → c ≡ b ++ text_of names comp.name → d ≡ c ++ codes "<" → e ≡ d ++ joined (λ e. event_text (event_tree names e)) comp.events.items → f ≡ e ++ codes ">("
    → g ≡ f ++ joined input_text (own_interfaces names comp.gos.items ++ own_data names comp.ins.items) → h ≡ g ++ codes ") -> (" → i ≡ h ++ joined (λ p. port_text (port_tree names p)) comp.outs.items → j ≡ i ++ codes ") {"
    → k ≡ j ++ flat_map (λ s. line_text (statement_tree names s)) comp.body.items → k ++ codes "\n}" ≡ a ++ component_text (component_tree names comp)
unfolding parts
component_put names comp a b c d e f g h i j k h1 h2 h3 h4 h5 h6 h7 h8 h9 h10 =
    eleven a b c d e f g h i j k (codes "comp ") (text_of names comp.name) (codes "<") (joined (λ e. event_text (event_tree names e)) comp.events.items) (codes ">(") (joined input_text (own_interfaces names comp.gos.items ++ own_data names comp.ins.items))
    (codes ") -> (") (joined (λ p. port_text (port_tree names p)) comp.outs.items) (codes ") {") (flat_map (λ s. line_text (statement_tree names s)) comp.body.items) (codes "\n}") h1 h2 h3 h4 h5 h6 h7 h8 h9 h10
    ∙ ap (λ (t : Text). a ++ t) (same_parts names comp)

pub design_put : (d : FilDesign) → flat_map (λ c. component_text (component_tree d.names c) ++ codes "\n") d.comps.items ≡ fil_text (design_of d)
design_put d = sym (flat_map-map (λ c. component_text c ++ codes "\n") (component_tree d.names) d.comps.items)
