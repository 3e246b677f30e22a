use Rattle.std.proofs.Common.{◌≡◌, ℕ, ◌<◌, List, [], ◌∷◌, length, map, get_or, slice_get, All, Some, sym, ap, ap₂, ◌∙◌, arith}
use Rattle.std.specs.Prelude.{option_map}
use Rattle.std.proofs.lemmas.List.{length-map}
use Rattle.std.proofs.lemmas.Option.{same_Some, slice_get-map, slice_get-get_or, slice_get_within}
use Rattle.hw_names.specs.Name.{Text}
use Rattle.fil_ast.specs.Tree.{Component, component_tree, design_of, port_tree}
use Rattle.fil_ast.specs.declared.tree.FilComp.{FilComp}
use Rattle.fil_ast.specs.declared.tree.FilDesign.{FilDesign}
use Rattle.fil_ast.specs.declared.tree.FilPort.{FilPort}
use Rattle.fil_flow.specs.Shown.{port_widths}
use Rattle.fil_tests.proofs.flow.flow_of_last.Goals as goal

two_words : (names : List Text) (ports : List FilPort) → length ports ≡ 2 → All (λ (p : FilPort). p.width ≡ 64) ports → port_widths (map (port_tree names) ports) ≡ 64 ∷ 64 ∷ []
two_words names [] two words = absurd (omega arith)
two_words names (a ∷ []) two words = absurd (omega arith)
two_words names (a ∷ b ∷ []) two words = ap₂ (λ m n. m ∷ n ∷ []) (words 0 a (omega arith)) (words 1 b (omega arith))
two_words names (a ∷ b ∷ d ∷ more) two words = absurd (omega arith)

component_at : (design : FilDesign) (n : ℕ) (comp : FilComp) (c : Component) → comp ≡ get_or design.comps.items n comp → slice_get (design_of design) n ≡ Some c → component_tree design.names comp ≡ c
component_at design n comp c is at =
    let tree = component_tree design.names in
    let within : n < length design.comps.items = omega (arith, slice_get_within (design_of design) n c at, length-map design.comps.items tree) in
    let here : slice_get design.comps.items n ≡ Some comp = slice_get-get_or design.comps.items n comp within ∙ ap Some (sym is) in
    same_Some (tree comp) c (sym (slice_get-map tree design.comps.items n ∙ ap (option_map tree) here) ∙ at)

pub flow-requires-clause-inputs : goal.flow-requires-clause-inputs
flow-requires-clause-inputs c other at =
    let design = c.design-design.result.now in
    let comp = c.index.result.now in
    let here : slice_get (design_of design) c.in_ok-last.last ≡ Some other = rw c.design-design.ensures.same at in
    let is = component_at design c.in_ok-last.last comp other c.index.ensures here in
    let words : All (λ (p : FilPort). p.width ≡ 64) comp.ins.items = rw (← c.as_slice-ports.ensures.value) (c.are_words.ensures.0 c.if-not-are_words.false) in
    ap₂ (λ m n. m ∷ n ∷ []) c.wrap.ensures.width c.wrap-2.ensures.width
    ∙ sym (two_words design.names comp.ins.items (omega arith) words) ∙ ap (λ (k : Component). port_widths k.ins) is
