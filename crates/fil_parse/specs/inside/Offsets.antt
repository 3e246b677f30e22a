-- The numbers after `+` and the delays of the code's trees, in text order. This project's.
use Rattle.std.specs.Prelude.{ℕ, List, [], ◌∷◌, ◌++◌, map, flat_map}
use Rattle.fil_ast.specs.declared.tree.Time.{Time}
use Rattle.fil_ast.specs.declared.tree.EventDef.{EventDef}
use Rattle.fil_ast.specs.declared.tree.FilPort.{FilPort}
use Rattle.fil_ast.specs.declared.tree.FilComp.{FilComp}
use Rattle.fil_ast.specs.declared.tree.Stmt.{Stmt}
use Rattle.fil_ast.specs.declared.tree.Stmt.TheVariants as stmts

abbrev pub of_times : List Time → List ℕ
of_times times = map (λ (t : Time). t.plus) times

abbrev pub of_port : FilPort → List ℕ
of_port p = p.from.plus ∷ p.to.plus ∷ []

abbrev pub of_statement : Stmt → List ℕ
of_statement (stmts.New name made params) = []
of_statement (stmts.Call name inst at args) = of_times at.items
of_statement (stmts.Both name made params at args) = of_times at.items
of_statement (stmts.Set dst value) = []

abbrev pub of_events : List EventDef → List ℕ
of_events events = map (λ (e : EventDef). e.delay) events

abbrev pub of_component : FilComp → List ℕ
of_component c = of_events c.events.items ++ (flat_map of_port c.ins.items ++ (flat_map of_port c.outs.items ++ flat_map of_statement c.body.items))
