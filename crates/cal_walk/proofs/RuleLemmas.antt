-- By C2, C9 and C10 the groups and the cells that control names are there; and each condition is one of control.
use Rattle.std.proofs.Common.{◌≡◌, ℕ, List, take, get_or, All, Option, Some, None, IfSome, sym, arith}
use Rattle.std.specs.Prelude.{Contains, bytes_eq, slice_get}
use Rattle.std.proofs.lemmas.List.Elements.{Contains-get_or}
use Rattle.std.proofs.lemmas.Slice.Eq.{bytes_eq-Decides}
use Rattle.hw_names.specs.Name.{Text}
use Rattle.cal_ast.proofs.ItemLemmas.{statement_item}
use Rattle.cal_ast.proofs.ListLemmas.{place_of, find-Some, Contains-flat_map}
use Rattle.cal_ast.proofs.SideLemmas.{some_of}
use Rattle.cal_ast.specs.Controlling.{EnablesGroup, HasCondition, group_named}
use Rattle.cal_ast.specs.Items.{TheStatement, control_statements, items_of}
use Rattle.cal_ast.specs.Naming.{StatementNamesKnown, Unreserved}
use Rattle.cal_ast.specs.Ports.{cell_named}
use Rattle.cal_ast.specs.Rules.{C1, Keeps, KeepsRules, all_rules}
use Rattle.cal_ast.specs.Statement.{IfEnable, IfCondition, IfInvoke}
use Rattle.cal_ast.specs.Tree.{PortName, InBinding, OutBinding, GroupDef, Statement, Enable, If, While, Invoke, Component, Design}
use Rattle.cal_walk.specs.Planning.{IsKnown, IsTestedIn, NamesGroup, NamesCell, tested_ports}

enable_weaker : (s : Statement) (P Q : Text → Type 0) → ((name : Text) → P name → Q name) → IfEnable s P → IfEnable s Q
enable_weaker (Enable name) P Q w h = w name h
enable_weaker s P Q w h = tt

condition_weaker : (s : Statement) (P Q : PortName → Option Text → Type 0) → ((port : PortName) (by : Option Text) → P port by → Q port by) → IfCondition s P → IfCondition s Q
condition_weaker (If port by s t) P Q w h = w port by h
condition_weaker (While port by s) P Q w h = w port by h
condition_weaker s P Q w h = tt

invoke_weaker : (s : Statement) (P Q : Text → List InBinding → List OutBinding → Type 0) → ((cell : Text) (ins : List InBinding) (outs : List OutBinding) → P cell ins outs → Q cell ins outs) → IfInvoke s P → IfInvoke s Q
invoke_weaker (Invoke cell ins outs) P Q w h = w cell ins outs h
invoke_weaker s P Q w h = tt

some_weaker : {X : Type 0} (o : Option X) (P Q : X → Type 0) → ((x : X) → P x → Q x) → IfSome o P → IfSome o Q
some_weaker None P Q w h = tt
some_weaker (Some x) P Q w h = w x h

named_group : (c : Component) (name : Text) (g : GroupDef) → group_named c.groups name ≡ Some g → NamesGroup c name
named_group c name g found =
    let r = find-Some (λ (x : GroupDef). bytes_eq x.name name) c.groups g found in
    let k = place_of c.groups g r.0 in
    (k.0, (g, k.1, sym ((bytes_eq-Decides g.name name).0 r.1)))

ports_tested : (c : Component) (s : Statement) → Contains (control_statements c.control) s → All (IsTestedIn c) (tested_ports s)
ports_tested c s has k d within =
    Contains-flat_map tested_ports (control_statements c.control) s (get_or (tested_ports s) k d) has (Contains-get_or (tested_ports s) k d within)

module _ (design : Design) (keeps : KeepsRules design) (n : ℕ) (c : Component) (at : slice_get design n ≡ Some c) where
  statement_keeps : (s : Statement) → Contains (control_statements c.control) s → All (Keeps Unreserved design (take n design) c (TheStatement s)) all_rules
  statement_keeps s has = let i = place_of (items_of c) (TheStatement s) (statement_item c s has) in keeps n c at i.0 (TheStatement s) i.1

  known : (s : Statement) → Contains (control_statements c.control) s → IsKnown c s
  known s has =
      let names : StatementNamesKnown design c s = statement_keeps s has 1 C1 (omega arith) in
      let enables : EnablesGroup c s = statement_keeps s has 8 C1 (omega arith) in
      let condition : HasCondition design c s = statement_keeps s has 9 C1 (omega arith) in
      record {
        enable = enable_weaker s _ (NamesGroup c) (λ name r. named_group c name r.0 r.1) enables;
        condition = condition_weaker s _ (λ port by. IfSome by (NamesGroup c)) (λ port by r. some_weaker by _ (NamesGroup c) (λ name g. named_group c name g.0 g.1) r.group) condition;
        invoke = invoke_weaker s _ (λ cell ins outs. NamesCell c cell) (λ cell ins outs r. some_of (cell_named c.cells cell) r.known) names.invoke;
        ports = ports_tested c s has;
      }

  pub all_known : All (IsKnown c) (control_statements c.control)
  all_known k d within = known (get_or (control_statements c.control) k d) (Contains-get_or (control_statements c.control) k d within)
