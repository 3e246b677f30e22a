-- The canonical text of a design that can be written spells the design.
use Rattle.std.proofs.Common.{◌≡◌, true, false, List, [], ◌∷◌, ◌++◌, codes, refl, sym, inl, append_assoc}
use Rattle.std.specs.List.{AllByRecursion}
use Rattle.hw_names.specs.Name.{Text}
use Rattle.hw_lex.specs.declared.token.Dialect.TheVariants.{Cal}
use Rattle.hw_lex.specs.declared.token.Kind.TheVariants as kinds
use Rattle.hw_lex.proofs.Words.{name_stands, double_stands}
use Rattle.hw_grammar.specs.declared.sort.Sort.TheVariants.{Arrow}
use Rattle.hw_grammar.specs.declared.sort.Sort.TheVariants as sorts
use Rattle.hw_grammar.specs.Grammar.{Mapped, AnyWord, Then, After, Many}
use Rattle.hw_grammar.proofs.Fragments.{Fragment, fragment_spells, retext, fragment_then, fragment_after, fragment_many}
use Rattle.hw_grammar.proofs.Decimals.{fragment_name}
use Rattle.hw_prims.specs.Table.{Pin}
use Rattle.cal_ast.specs.Tree.{CellDef, GroupDef, Assignment, ControlSection, Component, Design}
use Rattle.cal_parse.specs.Grammar.{Past, AreInputs, AreOutputs, MaybeOutputs, MaybeAngle, AreCells, AreWires, MaybeControl, IsComponentBody, component_from, IsComponent, IsFile}
use Rattle.cal_parse.specs.Spelling.{SpellsDesign}
use Rattle.cal_ast.specs.Written.{PinIsWritten, ComponentIsWritten, DesignIsWritten}
use Rattle.cal_print.specs.Layout.{joined, pin_text, cells_text, wires_text, control_text, component_head, component_text, design_text}
use Rattle.cal_print.proofs.Marks.{Langs, respelled, braced, block_shown}
use Rattle.cal_print.proofs.LinesShown.{without_attributes, without_angle, inputs_shown, outputs_shown, cells_shown, wires_shown}
use Rattle.cal_print.proofs.ControlShown.{control_shown}

maybe_outputs_shown : (pins : List Pin) → AllByRecursion PinIsWritten pins → Fragment Cal MaybeOutputs pins (codes " -> (" ++ (joined pin_text pins ++ codes ")")) false
maybe_outputs_shown pins w =
    let text : Text = 40 ∷ (joined pin_text pins ++ (41 ∷ [])) in
    respelled (λ names. After Arrow (AreOutputs names)) MaybeOutputs pins pins (codes " -> " ++ text) false (λ names ts rest s. inl s)
    (fragment_after Cal (32 ∷ []) kinds.Mark (45 ∷ 62 ∷ []) (32 ∷ []) Arrow AreOutputs pins text false refl refl refl (λ after. double_stands Cal 45 62 (32 ∷ (text ++ after)) refl) (outputs_shown pins w))

abbrev Sections : Type 0
Sections = List CellDef × ((List GroupDef × List Assignment) × ControlSection)

abbrev sections_of : Component → Sections
sections_of c = (c.cells, ((c.groups, c.sets), c.control))

abbrev sections_text : Component → Text
sections_text c = cells_text c.cells ++ wires_text c.groups c.sets ++ control_text c.control

sections_shown : (c : Component) → ComponentIsWritten c → Fragment Cal (λ names. Then (AreCells names) (Then (AreWires names) (MaybeControl names))) (sections_of c) (sections_text c) false
sections_shown c w =
    let Last : Langs ((List GroupDef × List Assignment) × ControlSection) = λ names. Then (AreWires names) (MaybeControl names) in
    let wires = fragment_then Cal AreWires MaybeControl (c.groups, c.sets) c.control (wires_text c.groups c.sets) (control_text c.control) false false (λ after f. tt) (wires_shown c.groups c.sets w.groups w.sets) (control_shown c.control w.control) in
    let all = fragment_then Cal AreCells Last c.cells ((c.groups, c.sets), c.control) (cells_text c.cells) (wires_text c.groups c.sets ++ control_text c.control) false false (λ after f. tt) (cells_shown c.cells w.cells) wires in
    retext Cal (λ names. Then (AreCells names) (Last names)) (sections_of c) (cells_text c.cells ++ (wires_text c.groups c.sets ++ control_text c.control)) (sections_text c) false
    (sym (append_assoc (cells_text c.cells) (wires_text c.groups c.sets) (control_text c.control))) all

head_parts : (name ins outs braces : Text) → codes "component " ++ (name ++ ((40 ∷ (ins ++ (41 ∷ []))) ++ ((codes " -> (" ++ (outs ++ codes ")")) ++ braces)))
    ≡ (codes "component " ++ name ++ codes "(" ++ ins ++ codes ") -> (" ++ outs ++ codes ")") ++ braces
head_parts name ins outs braces = simp append_assoc

component_shown : (c : Component) → ComponentIsWritten c → Fragment Cal IsComponent c (component_text c) false
component_shown c w =
    let inner : Text = sections_text c in
    let braces : Text = codes " {\n" ++ (inner ++ codes "}") in
    let ins : Text = 40 ∷ (joined pin_text c.ins ++ (41 ∷ [])) in
    let outs : Text = codes " -> (" ++ (joined pin_text c.outs ++ codes ")") in
    let Body : Langs Sections = IsComponentBody in
    let Last : Langs (List Pin × Sections) = λ names. Then (MaybeOutputs names) (IsComponentBody names) in
    let Lists : Langs (List Pin × (List Pin × Sections)) = λ names. Then (AreInputs names) (Last names) in
    let Named : Langs (Text × (List Pin × (List Pin × Sections))) = λ names. Then (AnyWord names) (Past MaybeAngle (Lists names)) in
    let value : Text × (List Pin × (List Pin × Sections)) = (c.name, (c.ins, (c.outs, sections_of c))) in
    let body = braced (λ names. Then (AreCells names) (Then (AreWires names) (MaybeControl names))) (sections_of c) inner [] refl (sections_shown c w) in
    let last = fragment_then Cal MaybeOutputs IsComponentBody c.outs (sections_of c) outs braces false false (λ after f. tt) (maybe_outputs_shown c.outs w.outs) body in
    let lists = fragment_then Cal AreInputs Last c.ins (c.outs, sections_of c) ins (outs ++ braces) false false (λ after f. tt) (inputs_shown c.ins w.ins) last in
    let plain = without_angle Lists (c.ins, (c.outs, sections_of c)) (ins ++ (outs ++ braces)) false lists in
    let named = fragment_then Cal AnyWord (λ names. Past MaybeAngle (Lists names)) c.name (c.ins, (c.outs, sections_of c)) c.name (ins ++ (outs ++ braces)) true false (λ after f. refl) (fragment_name Cal c.name w.name) plain in
    let text : Text = c.name ++ (ins ++ (outs ++ braces)) in
    let word = fragment_after Cal [] kinds.Name (codes "component") (32 ∷ []) sorts.Component Named value text false refl refl refl (λ after. name_stands Cal 99 (codes "omponent") (32 ∷ (text ++ after)) (refl, refl) refl) named in
    let All : Langs Component = λ names. Mapped component_from (After sorts.Component (Named names)) in
    let all = respelled (λ names. After sorts.Component (Named names)) All value c (codes "component " ++ text) false (λ names ts rest s. (value, s, refl)) word in
    block_shown IsComponent c [] (component_head c) inner refl (without_attributes All c (component_head c ++ braces) false
    (retext Cal All c (codes "component " ++ text) (component_head c ++ braces) false (head_parts c.name (joined pin_text c.ins) (joined pin_text c.outs) braces) all))

design_fragment : (d : Design) → DesignIsWritten d → Fragment Cal IsFile d (design_text d) false
design_fragment [] w = absurd (w.0 refl)
design_fragment (c ∷ cs) w =
    let Both : Langs (Component × List Component) = λ names. Then (IsComponent names) (Many (IsComponent names)) in
    let many = fragment_many Cal IsComponent ComponentIsWritten component_text false (λ a after. tt) component_shown cs w.1.1 in
    let both = fragment_then Cal IsComponent (λ names. Many (IsComponent names)) c cs (component_text c) (design_text cs) false false (λ after f. tt) (component_shown c w.1.0) many in
    respelled Both IsFile (c, cs) (c ∷ cs) (design_text (c ∷ cs)) false (λ names ts rest s. ((tt, c ∷ cs), (ts, ([], refl, refl), ((c, cs), s, refl)), refl)) both

-- the canonical text of a design that some text spells spells it too
pub design_shown : (d : Design) → DesignIsWritten d → SpellsDesign (design_text d) d
design_shown d w = fragment_spells Cal IsFile d (design_text d) (design_fragment d w)
