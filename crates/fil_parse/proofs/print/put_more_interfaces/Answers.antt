use Rattle.std.proofs.Common.{refl, get_or}
use Rattle.fil_ast.specs.declared.tree.GoPort.{GoPort}
use Rattle.fil_ast.specs.Tree.{interface_tree}
use Rattle.fil_parse.specs.Layout.{interface_text}
use Rattle.fil_parse.proofs.PrintLemmas.{more_put}
use Rattle.fil_parse.proofs.print.put_more_interfaces.Goals as goal

pub loop-port-preserved : goal.loop-port-preserved
loop-port-preserved c =
    let zero : GoPort = record { event = record { 0 = 0 }; name = record { 0 = 0 }; width = 0 } in
    more_put (λ p. interface_text (interface_tree c.args.names.now p)) c.args.ports.now c.loop-port.port-index zero (get_or c.args.ports.now c.loop-port.port-index zero) c.args.out.now.items c.loop-port.out.items c.put.new.out.items c.put_interface.new.out.items
    c.loop-port-test.true refl c.loop-port.invariant c.in_ok-put.ensures c.in_ok-put_interface.ensures
