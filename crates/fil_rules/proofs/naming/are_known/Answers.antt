use Rattle.std.proofs.Common.{◌≡◌, List, All, length, not, take, is_some, subst, sym, ap, ◌∙◌, arith}
use Rattle.std.proofs.Math.Seq.{take-length}
use Rattle.std.proofs.lemmas.List.Elements.{All-more}
use Rattle.fil_ast.specs.Naming.{IsKnownValue}
use Rattle.fil_ast.specs.Tree.{value_tree}
use Rattle.fil_ast.specs.declared.tree.Value.{Value}
use Rattle.fil_ast.specs.declared.tree.Value.TheVariants.{Port}
use Rattle.fil_sig.proofs.ListLemmas.{told_true}
use Rattle.fil_rules.proofs.ArgumentLemmas.{known_by_width}
use Rattle.fil_rules.proofs.naming.are_known.Goals as goal

no_value : Value
no_value = Port (record { 0 = 0 })

pub loop-arg-preserved : goal.loop-arg-preserved
unfolding no_value
loop-arg-preserved c scope place =
    let names = c.args.place.now.names.now in
    let P : Value → Type 0 = λ arg. IsKnownValue scope (value_tree names arg) in
    All-more P c.args.args.now c.loop-arg.arg-index no_value c.loop-arg-test.true (c.loop-arg.invariant scope place)
    (known_by_width scope _ (ap is_some (sym (c.value_width.ensures scope place)) ∙ c.is_none.ensures ∙ ap not c.if-is_none.false))

pub returns : goal.returns
returns c scope place =
    let args = c.args.args.now in
    let P : Value → Type 0 = λ arg. IsKnownValue scope (value_tree c.args.place.now.names.now arg) in
    let A : List Value → Type 0 = All P in
    let end : c.loop-arg.arg-index ≡ length args = omega arith in
    told_true (All P args) (subst A (ap (λ k. take k args) end ∙ take-length args) (c.loop-arg.invariant scope place))
