use Rattle.std.proofs.Common.{◌≡◌, List, All, length, take, subst, ap, ◌∙◌, arith}
use Rattle.std.proofs.Math.Seq.{take-length}
use Rattle.std.proofs.lemmas.List.Elements.{All-more}
use Rattle.fil_ast.specs.Tree.{value_tree}
use Rattle.fil_ast.specs.Typing.{LiteralFits}
use Rattle.fil_ast.specs.declared.tree.Value.{Value}
use Rattle.fil_ast.specs.declared.tree.Value.TheVariants.{Port}
use Rattle.fil_sig.proofs.ListLemmas.{told_true}
use Rattle.fil_rules.proofs.typing.are_literals.Goals as goal

no_value : Value
no_value = Port (record { 0 = 0 })

pub loop-arg-preserved : goal.loop-arg-preserved
unfolding no_value
loop-arg-preserved c names =
    let P : Value → Type 0 = λ arg. LiteralFits (value_tree names arg) in
    All-more P c.args.args.now c.loop-arg.arg-index no_value c.loop-arg-test.true (c.loop-arg.invariant names) ((c.literal_fits.ensures names).0 c.if-not-literal_fits.false)

pub returns : goal.returns
returns c names =
    let args = c.args.args.now in
    let P : Value → Type 0 = λ arg. LiteralFits (value_tree names arg) in
    let A : List Value → Type 0 = All P in
    let end : c.loop-arg.arg-index ≡ length args = omega arith in
    told_true (All P args) (subst A (ap (λ k. take k args) end ∙ take-length args) (c.loop-arg.invariant names))
