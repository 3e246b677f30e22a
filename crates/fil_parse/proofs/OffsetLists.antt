-- The numbers of the code's trees are those of the design.
use Rattle.std.proofs.Common.{◌≡◌, List, [], ◌∷◌, ◌++◌, map, refl, sym, ap, ◌∙◌}
use Rattle.std.specs.Prelude.{find, flat_map}
use Rattle.std.proofs.lemmas.List.Concat.{flat_map-cons}
use Rattle.hw_names.specs.Name.{Text}
use Rattle.fil_ast.specs.declared.tree.Time.{Time}
use Rattle.fil_ast.specs.declared.tree.EventDef.{EventDef}
use Rattle.fil_ast.specs.declared.tree.FilComp.{FilComp}
use Rattle.fil_ast.specs.declared.tree.FilDesign.{FilDesign}
use Rattle.fil_ast.specs.declared.tree.Stmt.{Stmt}
use Rattle.fil_ast.specs.declared.tree.Stmt.TheVariants as stmts
use Rattle.fil_ast.specs.Tree.{TimeAt, Event, time_tree, event_tree, port_tree, statement_tree, component_tree, design_of}
use Rattle.fil_parse.specs.inside.Offsets.{of_times, of_port, of_statement, of_events, of_component}
use Rattle.fil_parse.specs.Spelling.{time_offsets, port_offsets, statement_offsets, component_offsets, is_large, first_large}

flat_same : {X Y Z : Type 0} (f : Y → List Z) (g : X → Y) (h : X → List Z) → ((x : X) → f (g x) ≡ h x) → (xs : List X) → flat_map f (map g xs) ≡ flat_map h xs
flat_same f g h e [] = refl
flat_same {Z = Z} f g h e (x ∷ xs) =
    flat_map-cons f (g x) (map g xs) ∙ ap (λ (t : List Z). t ++ flat_map f (map g xs)) (e x) ∙ ap (λ (t : List Z). h x ++ t) (flat_same f g h e xs) ∙ sym (flat_map-cons h x xs)

map_same : {X Y Z : Type 0} (f : Y → Z) (g : X → Y) (h : X → Z) → ((x : X) → f (g x) ≡ h x) → (xs : List X) → map f (map g xs) ≡ map h xs
map_same f g h e [] = refl
map_same {Z = Z} f g h e (x ∷ xs) = ap (λ (t : Z). t ∷ map f (map g xs)) (e x) ∙ ap (λ (t : List Z). h x ∷ t) (map_same f g h e xs)

module _ (names : List Text) where
  times_same : (times : List Time) → time_offsets (map (time_tree names) times) ≡ of_times times
  times_same times = map_same (λ (t : TimeAt). t.plus) (time_tree names) (λ (t : Time). t.plus) (λ t. refl) times

  statement_same : (s : Stmt) → statement_offsets (statement_tree names s) ≡ of_statement s
  statement_same (stmts.New name made params) = refl
  statement_same (stmts.Call name inst at args) = times_same at.items
  statement_same (stmts.Both name made params at args) = times_same at.items
  statement_same (stmts.Set dst value) = refl

  component_same : (c : FilComp) → component_offsets (component_tree names c) ≡ of_component c
  component_same c =
      let events : map (λ (e : Event). e.delay) (map (event_tree names) c.events.items) ≡ of_events c.events.items = map_same (λ (e : Event). e.delay) (event_tree names) (λ (e : EventDef). e.delay) (λ e. refl) c.events.items in
      let ins : flat_map port_offsets (map (port_tree names) c.ins.items) ≡ flat_map of_port c.ins.items = flat_same port_offsets (port_tree names) of_port (λ p. refl) c.ins.items in
      let outs : flat_map port_offsets (map (port_tree names) c.outs.items) ≡ flat_map of_port c.outs.items = flat_same port_offsets (port_tree names) of_port (λ p. refl) c.outs.items in
      let body : flat_map statement_offsets (map (statement_tree names) c.body.items) ≡ flat_map of_statement c.body.items = flat_same statement_offsets (statement_tree names) of_statement statement_same c.body.items in
      rw (events, ins, outs, body) refl

pub design_same : (d : FilDesign) → first_large (design_of d) ≡ find is_large (flat_map of_component d.comps.items)
design_same d = ap (find is_large) (flat_same component_offsets (component_tree d.names) of_component (component_same d.names) d.comps.items)
