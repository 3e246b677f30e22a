-- What holds of the port of each condition of the control holds of each port that the plan names.
use Rattle.std.proofs.Common.{ℕ, ◌+◌, List, length}
use Rattle.cal_ast.specs.Items.{unless_empty, statements_in, statements_of, control_statements}
use Rattle.cal_ast.specs.Plan.{plan_at, plans_from, section_plan}
use Rattle.cal_ast.specs.Statement.{IfCondition}
use Rattle.cal_ast.specs.Tree.{PortName, Statement, Enable, Seq, Par, If, While, Invoke, Statements, NoStatements, MoreStatements, ControlSection, Absent, Empty, Body}
use Rattle.cal_lower.proofs.BitLemmas.{EachPort, EachPortIn}
use Rattle.cal_lower.proofs.ListLemmas.{Each, each_left, each_right}

module _ (P : PortName → Type 0) where
  abbrev pub HasPort : Statement → Type 0
  HasPort s = IfCondition s (λ port by. P port)

  branch_ports : (k : ℕ) (s : Statement) → (Each HasPort (statements_in s) → EachPort P (plan_at k s)) → Each HasPort (unless_empty s (statements_in s)) → EachPort P (plan_at k s)
  branch_ports k (Seq NoStatements) f all = tt
  branch_ports k s f all = f all

  mutual
    plan_ports : (k : ℕ) (s : Statement) → Each HasPort (statements_in s) → EachPort P (plan_at k s)
    plan_ports k (Enable name) all = tt
    plan_ports k (Seq ss) all = plans_ports (k + 1) ss all.1
    plan_ports k (Par ss) all = plans_ports (k + 1) ss all.1
    plan_ports k (If port by s t) all =
        let first : List Statement = unless_empty s (statements_in s) in
        let second : List Statement = unless_empty t (statements_in t) in (
          all.0,
          branch_ports (k + 1) s (λ here. plan_ports (k + 1) s here) (each_left HasPort first second all.1),
          branch_ports (k + 1 + length first) t (λ here. plan_ports (k + 1 + length first) t here) (each_right HasPort first second all.1),
        )
    plan_ports k (While port by s) all = (all.0, branch_ports (k + 1) s (λ here. plan_ports (k + 1) s here) all.1)
    plan_ports k (Invoke cell ins outs) all = tt

    plans_ports : (k : ℕ) (ss : Statements) → Each HasPort (statements_of ss) → EachPortIn P (plans_from k ss)
    plans_ports k NoStatements all = tt
    plans_ports k (MoreStatements s ss) all = (
      plan_ports k s (each_left HasPort (statements_in s) (statements_of ss) all),
      plans_ports (k + length (statements_in s)) ss (each_right HasPort (statements_in s) (statements_of ss) all),
    )

  pub section_ports : (k : ℕ) (control : ControlSection) → Each HasPort (control_statements control) → EachPort P (section_plan k control)
  section_ports k Absent all = tt
  section_ports k Empty all = tt
  section_ports k (Body s) all = plan_ports k s all
