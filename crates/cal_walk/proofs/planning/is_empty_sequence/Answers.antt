use Rattle.std.proofs.Common.{◌≡◌, sym, refl, subst}
use Rattle.cal_ast.specs.Items.{unless_empty}
use Rattle.cal_ast.specs.Tree.{statement_tree}
use Rattle.cal_ast.specs.declared.tree.Control.{Control}
use Rattle.cal_walk.proofs.ControlLemmas.{seq_nothing, seq_something}
use Rattle.cal_walk.proofs.planning.is_empty_sequence.Goals as goal

pub returns-in-Seq-clause-nothing : goal.returns-in-Seq-clause-nothing
returns-in-Seq-clause-nothing c = λ names. seq_nothing names c.args.control.now c.in-Seq.statements c.in-Seq.is c.is_empty.result c.is_empty.ensures

pub returns-in-Seq-clause-something : goal.returns-in-Seq-clause-something
returns-in-Seq-clause-something c = λ names. seq_something names c.args.control.now c.in-Seq.statements c.in-Seq.is c.is_empty.result c.is_empty.ensures

pub returns-in-Enable-clause-something : goal.returns-in-Enable-clause-something
returns-in-Enable-clause-something c = λ names rest e. subst (λ (s : Control). unless_empty (statement_tree names s) rest ≡ rest) (sym c.in-Enable.is) refl

pub returns-in-Par-clause-something : goal.returns-in-Par-clause-something
returns-in-Par-clause-something c = λ names rest e. subst (λ (s : Control). unless_empty (statement_tree names s) rest ≡ rest) (sym c.in-Par.is) refl

pub returns-in-If-clause-something : goal.returns-in-If-clause-something
returns-in-If-clause-something c = λ names rest e. subst (λ (s : Control). unless_empty (statement_tree names s) rest ≡ rest) (sym c.in-If.is) refl

pub returns-in-While-clause-something : goal.returns-in-While-clause-something
returns-in-While-clause-something c = λ names rest e. subst (λ (s : Control). unless_empty (statement_tree names s) rest ≡ rest) (sym c.in-While.is) refl

pub returns-in-Invoke-clause-something : goal.returns-in-Invoke-clause-something
returns-in-Invoke-clause-something c = λ names rest e. subst (λ (s : Control). unless_empty (statement_tree names s) rest ≡ rest) (sym c.in-Invoke.is) refl
