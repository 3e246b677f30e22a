use Rattle.std.proofs.Common.{sym}
use Rattle.net_text.proofs.PrintLemmas.{text_parts}
use Rattle.net_text.proofs.print.print_net.Goals as goal

pub returns : goal.returns
returns c =
    rw (c.in_ok-put-3.ensures, c.in_ok-put_sets.ensures, c.in_ok-put_cells.ensures, c.in_ok-put_ports-3.ensures, c.in_ok-put_ports-2.ensures, c.in_ok-put_ports.ensures, c.in_ok-put-2.ensures, c.in_ok-put_name.ensures, c.in_ok-put.ensures, c.new-out.ensures.items, c.deref.ensures.value, c.deref-2.ensures.value, c.deref-3.ensures.value, c.deref-4.ensures.value, c.deref-5.ensures.value)
    (sym (text_parts c.args.net.now))
