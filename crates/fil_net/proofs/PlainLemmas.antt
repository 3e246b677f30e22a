-- Names that a text of Filament can have are plain.
use Rattle.std.proofs.Common.{[], All}
use Rattle.std.proofs.lemmas.List.Elements.{All-cons, All-from_recursion, All-nil, All-weaker}
use Rattle.hw_names.specs.Name.{Text, IsPlain}
use Rattle.hw_lex.specs.declared.token.Dialect.TheVariants.{Fil}
use Rattle.hw_grammar.proofs.PlainNames.{name_plain}
use Rattle.fil_ast.specs.Plain.{IsPlainComponent, IsPlainInstance, IsPlainInterface, IsPlainPort}
use Rattle.fil_ast.specs.Scope.{instances_at}
use Rattle.fil_ast.specs.Tree.{Component, DataPort, Interface, Statement, New, Call, Both, Connect}
use Rattle.fil_parse.specs.Written.{ComponentIsWritten, InterfaceIsWritten, IsFilName, PortIsWritten, StatementIsWritten}
use Rattle.fil_net.specs.Laws.{WrittenDesignsArePlain}
use Rattle.fil_net.proofs.ListLemmas.{All-flat}

fil_plain : (name : Text) → IsFilName name → IsPlain name
fil_plain name is = name_plain Fil name is.0

port_plain : (p : DataPort) → PortIsWritten p → IsPlainPort p
port_plain p is = fil_plain p.name is.1.1.0

instances_plain : (s : Statement) → StatementIsWritten s → All IsPlainInstance (instances_at s)
instances_plain (New name made params) is = All-cons IsPlainInstance (record { name = name; made = made; params = params }) [] (fil_plain name is.0) (All-nil IsPlainInstance)
instances_plain (Both name made params gives) is = All-cons IsPlainInstance (record { name = name; made = made; params = params }) [] (fil_plain name is.0) (All-nil IsPlainInstance)
instances_plain (Call name inst gives) is = All-nil IsPlainInstance
instances_plain (Connect output value) is = All-nil IsPlainInstance

component_plain : (c : Component) → ComponentIsWritten c → IsPlainComponent c
component_plain c is = record {
  interfaces = All-weaker InterfaceIsWritten IsPlainInterface (λ (g : Interface) written. fil_plain g.name written.1.0) c.interfaces (All-from_recursion InterfaceIsWritten c.interfaces is.interfaces);
  ins = All-weaker PortIsWritten IsPlainPort port_plain c.ins (All-from_recursion PortIsWritten c.ins is.ins);
  outs = All-weaker PortIsWritten IsPlainPort port_plain c.outs (All-from_recursion PortIsWritten c.outs is.outs);
  instances =
      All-flat IsPlainInstance instances_at c.body
      (All-weaker StatementIsWritten (λ (s : Statement). All IsPlainInstance (instances_at s)) instances_plain c.body (All-from_recursion StatementIsWritten c.body is.body));
}

pub written_plain : WrittenDesignsArePlain
written_plain comps written = All-weaker ComponentIsWritten IsPlainComponent component_plain comps (All-from_recursion ComponentIsWritten comps written.1)
