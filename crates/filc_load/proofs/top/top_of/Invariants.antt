use Rattle.fil_ast.specs.Tree.{design_of}
use Rattle.filc_load.proofs.TopLemmas.{HasNoMainBefore}
use Rattle.filc_load.proofs.top.top_of.Given as goal

-- no component so far is named main
abbrev pub invariant-loop-number : goal.invariant-loop-number
invariant-loop-number l = HasNoMainBefore (design_of l.design) l.number
