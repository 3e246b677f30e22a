-- A test at a control statement, by the statement's kind.
use Rattle.std.proofs.Common.{◌≡◌, ◌↔◌, Bool, true, List, map, sym, subst, subst₂}
use Rattle.std.specs.Bool.{IsTrue}
use Rattle.hw_names.specs.Name.{Text}
use Rattle.cal_ast.specs.Tree.{InBinding, OutBinding, Statement, in_tree, out_tree, statement_tree}
use Rattle.cal_ast.specs.declared.tree.Control.{Control}
use Rattle.cal_ast.specs.declared.tree.InBind.{InBind}
use Rattle.cal_ast.specs.declared.tree.OutBind.{OutBind}
use Rattle.cal_place.proofs.ListLemmas.{told_true}

module _ (names : List Text) (Q : Statement → Type 0) (s : Control) where
  -- what is tested is said of the kind that the statement is of
  pub tested_kind : (kind : Control) (b : Bool) → s ≡ kind → IsTrue b ↔ Q (statement_tree names kind) → IsTrue b ↔ Q (statement_tree names s)
  tested_kind kind b is told = subst (λ (t : Control). IsTrue b ↔ Q (statement_tree names t)) (sym is) told

  -- nothing is asked of that kind
  pub free_kind : (kind : Control) → s ≡ kind → Q (statement_tree names kind) → IsTrue true ↔ Q (statement_tree names s)
  free_kind kind is kept = tested_kind kind true is (told_true (Q (statement_tree names kind)) kept)

-- what a test says of the bindings of an invoke, as slices have them
module _ (names : List Text) (b : Bool) where
  pub ins_listed : (P : List InBinding → Type 0) (ins listed : List InBind) → listed ≡ ins → IsTrue b ↔ P (map (in_tree names) listed) → IsTrue b ↔ P (map (in_tree names) ins)
  ins_listed P ins listed are told = subst (λ (bs : List InBind). IsTrue b ↔ P (map (in_tree names) bs)) are told

  pub outs_listed : (P : List OutBinding → Type 0) (outs listed : List OutBind) → listed ≡ outs → IsTrue b ↔ P (map (out_tree names) listed) → IsTrue b ↔ P (map (out_tree names) outs)
  outs_listed P outs listed are told = subst (λ (bs : List OutBind). IsTrue b ↔ P (map (out_tree names) bs)) are told

  pub binds_listed : (P : List InBinding → List OutBinding → Type 0) (ins in_slice : List InBind) (outs out_slice : List OutBind) → in_slice ≡ ins → out_slice ≡ outs
      → IsTrue b ↔ P (map (in_tree names) in_slice) (map (out_tree names) out_slice) → IsTrue b ↔ P (map (in_tree names) ins) (map (out_tree names) outs)
  binds_listed P ins in_slice outs out_slice are_ins are_outs told =
      subst₂ (λ (is : List InBind) (os : List OutBind). IsTrue b ↔ P (map (in_tree names) is) (map (out_tree names) os)) are_ins are_outs told
