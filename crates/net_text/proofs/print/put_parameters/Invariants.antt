use Rattle.std.proofs.Common.{◌≡◌, ◌++◌, take}
use Rattle.net_text.specs.Layout.{parameters_text}
use Rattle.net_text.proofs.print.put_parameters.Given as goal

abbrev pub invariant-loop-param : goal.invariant-loop-param
invariant-loop-param l = l.out.items ≡ l.initial.out.items ++ parameters_text (take l.param-index l.params)
