-- Texts of guards and lines, put one after the other.
use Rattle.std.proofs.Common.{◌≡◌, ℕ, suc, ◌+◌, ◌<◌, Bool, true, false, cond, ◌==◌, List, [], ◌∷◌, ◌++◌, length, get_or, take, map, codes, Result, Ok, Err, OnOk, refl, sym, ap, ◌∙◌, append_assoc, arith}
use Rattle.std.specs.List.{flat_map}
use Rattle.std.proofs.lemmas.Bool.{ne_eqb}
use Rattle.std.proofs.lemmas.List.Concat.{flat_map-append}
use Rattle.std.proofs.lemmas.List.{append-nil, take_more, length-take}
use Rattle.hw_names.specs.Name.{Text, text_of}
use Rattle.hw_names.specs.declared.names.NameId.{NameId}
use Rattle.net_core.specs.Guard.{guard_tree}
use Rattle.net_core.specs.Netlist.{Line, InLine, OutLine, WireLine, CellOf, SetOf, lines_of, pin_of, cell_of, set_of, netlist_of}
use Rattle.net_core.specs.declared.net.Net.{Net}
use Rattle.net_core.specs.declared.net.Guard.{Guard}
use Rattle.net_text.specs.Layout.{guard_text, guards_text, rest_text, pin_text, line_text, ended, net_text}
use Rattle.net_text.specs.inside.View.{guards_of}

-- what was put, said in another way
pub OnOk-is : {A E : Type 0} (r : Result A E) (new text other : Text) → OnOk r (new ≡ text) → text ≡ other → OnOk r (new ≡ other)
OnOk-is (Ok x) new text other h e = h ∙ e
OnOk-is (Err x) new text other h e = h

rest_text-push : (names : List Text) (between : Text) (gs : List (Guard NameId)) (g : Guard NameId) → rest_text between (guards_of names (gs ++ g ∷ [])) ≡ rest_text between (guards_of names gs) ++ (between ++ guard_text (guard_tree (text_of names) g))
rest_text-push names between [] g = append-nil (between ++ guard_text (guard_tree (text_of names) g))
rest_text-push names between (h ∷ gs) g =
    let first : Text = between ++ guard_text (guard_tree (text_of names) h) in
    ap (λ (t : Text). first ++ t) (rest_text-push names between gs g) ∙ sym (append_assoc first (rest_text between (guards_of names gs)) (between ++ guard_text (guard_tree (text_of names) g)))

-- one more guard at the end of a list
guards_text-push : (names : List Text) (between : Text) (gs : List (Guard NameId)) (g : Guard NameId) → guards_text between (guards_of names (gs ++ g ∷ [])) ≡ guards_text between (guards_of names gs) ++ (cond (length gs == 0) [] between ++ guard_text (guard_tree (text_of names) g))
guards_text-push names between [] g = append-nil (guard_text (guard_tree (text_of names) g))
guards_text-push names between (h ∷ gs) g =
    let first : Text = guard_text (guard_tree (text_of names) h) in
    let text : Text = guard_text (guard_tree (text_of names) g) in
    let more : (suc (length gs) == 0) ≡ false = ne_eqb (suc (length gs)) 0 (λ e. omega (arith, e)) in
    ap (λ (t : Text). first ++ t) (rest_text-push names between gs g) ∙ sym (append_assoc first (rest_text between (guards_of names gs)) (between ++ text))
    ∙ ap (λ (b : Bool). (first ++ rest_text between (guards_of names gs)) ++ (cond b [] between ++ text)) (sym more)

after_mark : (b : Bool) (out between text : Text) → cond b out (out ++ between) ++ text ≡ out ++ (cond b [] between ++ text)
after_mark true out between text = refl
after_mark false out between text = append_assoc out between text

-- a turn of the loop over the guards of a list
pub guards_step : (names : List Text) (between : Text) (gs : List (Guard NameId)) (i : ℕ) (g : Guard NameId) (before out marked new : Text) → i < length gs → g ≡ get_or gs i g
    → out ≡ before ++ guards_text between (guards_of names (take i gs)) → marked ≡ cond (i == 0) out (out ++ between) → new ≡ marked ++ guard_text (guard_tree (text_of names) g)
    → new ≡ before ++ guards_text between (guards_of names (take (i + 1) gs))
guards_step names between gs i g before out marked new lt item so_far mark put =
    let text : Text = guard_text (guard_tree (text_of names) g) in
    let front : Text = guards_text between (guards_of names (take i gs)) in
    let len : length (take i gs) ≡ i = omega (arith, length-take i gs) in
    put ∙ ap (λ (t : Text). t ++ text) mark ∙ after_mark (i == 0) out between text
    ∙ ap (λ (t : Text). t ++ (cond (i == 0) [] between ++ text)) so_far
    ∙ append_assoc before front (cond (i == 0) [] between ++ text)
    ∙ ap (λ (n : ℕ). before ++ (front ++ (cond (n == 0) [] between ++ text))) (sym len)
    ∙ ap (λ (t : Text). before ++ t) (sym (guards_text-push names between (take i gs) g))
    ∙ ap (λ (l : List (Guard NameId)). before ++ guards_text between (guards_of names l)) (ap (λ (h : Guard NameId). take i gs ++ h ∷ []) item ∙ sym (take_more gs i g lt))

flat_map-map : {A B C : Type 0} (f : B → List C) (g : A → B) (xs : List A) → flat_map f (map g xs) ≡ flat_map (λ x. f (g x)) xs
flat_map-map f g [] = refl
flat_map-map f g (x ∷ xs) = ap (λ ys. f (g x) ++ ys) (flat_map-map f g xs)

-- the lines of a section
section_text : {A B : Type 0} (of : B → Line) (view : A → B) (xs : List A) → flat_map (λ line. ended (line_text line)) (map of (map view xs)) ≡ flat_map (λ x. ended (line_text (of (view x)))) xs
section_text of view xs = flat_map-map (λ line. ended (line_text line)) of (map view xs) ∙ flat_map-map (λ b. ended (line_text (of b))) view xs

grouped : (first a b c d e last : Text) → first ++ (a ++ b ++ c ++ d ++ e) ++ last ≡ first ++ a ++ b ++ c ++ d ++ e ++ last
grouped first a b c d e last = simp append_assoc

same_parts : (first a a' b b' c c' d d' e e' last : Text) → a ≡ a' → b ≡ b' → c ≡ c' → d ≡ d' → e ≡ e' → first ++ a ++ b ++ c ++ d ++ e ++ last ≡ first ++ a' ++ b' ++ c' ++ d' ++ e' ++ last
same_parts first a a' b b' c c' d d' e e' last p q r s t = λ i. first ++ p i ++ q i ++ r i ++ s i ++ t i ++ last

-- the text of a netlist, section by section, in the order in which it is put
pub text_parts : (net : Net) → net_text (netlist_of net) ≡
    (codes "net " ++ text_of net.names net.name) ++ codes "\n"
    ++ flat_map (λ p. ended (codes "in " ++ pin_text (pin_of net.names p))) net.ins.items
    ++ flat_map (λ p. ended (codes "out " ++ pin_text (pin_of net.names p))) net.outs.items
    ++ flat_map (λ p. ended (codes "wire " ++ pin_text (pin_of net.names p))) net.wires.items
    ++ flat_map (λ c. ended (line_text (CellOf (cell_of net.names c)))) net.cells.items
    ++ flat_map (λ a. ended (line_text (SetOf (set_of net.names a)))) net.sets.items
    ++ codes "end\n"
text_parts net =
    let E : Line → Text = λ line. ended (line_text line) in
    let names = net.names in
    let first : Text = ended (codes "net " ++ text_of names net.name) in
    let a : Text = flat_map E (map InLine (map (pin_of names) net.ins.items)) in
    let b : Text = flat_map E (map OutLine (map (pin_of names) net.outs.items)) in
    let c : Text = flat_map E (map WireLine (map (pin_of names) net.wires.items)) in
    let d : Text = flat_map E (map CellOf (map (cell_of names) net.cells.items)) in
    let e : Text = flat_map E (map SetOf (map (set_of names) net.sets.items)) in
    let split : flat_map E (lines_of (netlist_of net)) ≡ a ++ b ++ c ++ d ++ e = simp flat_map-append in
    ap (λ (t : Text). first ++ t ++ codes "end\n") split
    ∙ grouped first a b c d e (codes "end\n")
    ∙ same_parts first _ _ _ _ _ _ _ _ _ _ (codes "end\n") (section_text InLine (pin_of names) net.ins.items) (section_text OutLine (pin_of names) net.outs.items) (section_text WireLine (pin_of names) net.wires.items)
    (section_text CellOf (cell_of names) net.cells.items) (section_text SetOf (set_of names) net.sets.items)
