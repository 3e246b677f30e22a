-- Parts of F5 as the code judges them, over names by their numbers. This project's.
use Rattle.std.specs.Prelude.{◌≡◌, ◌≤◌, List, length, All}
use Rattle.hw_names.specs.Name.{Text, text_of}
use Rattle.fil_ast.specs.declared.tree.EventDef.{EventDef}
use Rattle.fil_ast.specs.declared.tree.FilComp.{FilComp}
use Rattle.fil_ast.specs.declared.tree.FilPort.{FilPort}
use Rattle.fil_ast.specs.declared.tree.GoPort.{GoPort}
use Rattle.fil_ast.specs.Tree.{port_tree}
use Rattle.fil_ast.specs.Typing.{IsInterval}

-- the event of an interface port
abbrev pub event_of : List Text → GoPort → Text
event_of names g = text_of names g.event

-- what F5 says of numbers alone
pub record HasPlainShape (c : FilComp) : Type 0 where
  pub few : length c.events.items ≤ 16
  pub delays : All (λ (e : EventDef). 1 ≤ e.delay) c.events.items
  pub one_bit : All (λ (g : GoPort). g.width ≡ 1) c.gos.items

-- both times of each data port name one event, the first before the second
abbrev pub HasIntervals : List Text → FilComp → Type 0
HasIntervals names c =
    All (λ (p : FilPort). IsInterval (port_tree names p)) c.ins.items × All (λ (p : FilPort). IsInterval (port_tree names p)) c.outs.items
