-- A design, with what control lets act in a row, is an orderly circuit.
use Rattle.std.proofs.Common.{◌≡◌, List, true, refl, ap, subst}
use Rattle.std.specs.Prelude.{Contains}
use Rattle.hw_graph.proofs.MemberLemmas.{In, in_of}
use Rattle.hw_names.specs.Name.{Text, Path, dotted}
use Rattle.hw_prims.specs.Meaning.{is_through}
use Rattle.hw_prims.specs.Table.{inputs_of, outputs_of, pin_names}
use Rattle.hw_prims.specs.declared.prim.Primitive.{Primitive}
use Rattle.cal_ast.proofs.PathLoopLemmas.{no_loop_over_paths}
use Rattle.cal_ast.specs.FlatWires.{FlatReaches, FlatAtOnce, FlatOver}
use Rattle.cal_ast.specs.Instances.{IsPrimitiveCell}
use Rattle.cal_ast.specs.Naming.{Unreserved}
use Rattle.cal_ast.specs.Plain.{HasPlainTree}
use Rattle.cal_ast.specs.Rules.{CalRules}
use Rattle.cal_ast.specs.Schedule.{IsPortOf}
use Rattle.cal_ast.specs.Tree.{port_of, Component, Design}
use Rattle.cal_ast.specs.Wires.{ByPrimitive}
use Rattle.cal_walk.specs.Stages.{Progress}
use Rattle.cal_runs.proofs.PortListLemmas.{lists_ports}
use Rattle.cal_runs.proofs.RowLemmas.{input_port}
use Rattle.net_runs.proofs.OrderlyLemmas.{IsOrderly, Driven}
use Rattle.net_runs.proofs.SettlingLemmas.{Reaches, AtOnce, Over}
use Rattle.cal_exist.proofs.ActivityLemmas.{circuit, Reads, drive_follows}
use Rattle.cal_exist.proofs.DriverLemmas.{one_role, role_port, decide_role}

module _ (design : Design) (top : Component) (plain : HasPlainTree design) (rules : CalRules design) (in_design : Contains design top) (progress : Path → Progress) where
  abbrev ReadsOne : Text → Text → Type 0
  ReadsOne = Reads design top progress rules in_design

  pub ports : List Text
  ports = (lists_ports Unreserved design rules.keeps top in_design).0

  listed : (name : Text) → IsPortOf design top name → In ports name
  unfolding ports
  listed name is =
      let all = lists_ports Unreserved design rules.keeps top in_design in
      in_of all.0 name (subst (λ (x : Text). Contains all.0 x) is.named (all.1 is.path is.c is.p is.at is.known))

  flat : (x y : Text) → Reaches ReadsOne x y → FlatReaches design top x y
  flat x y (AtOnce p q reads) = FlatAtOnce p q reads.0
  flat x y (Over p between q reads rest) = FlatOver p between q reads.0 (flat between q rest)

  cell_reads : (cell : Text) (prim : Primitive) (output input : Text) → IsPrimitiveCell design top cell prim → Contains (pin_names (outputs_of prim)) output → Contains (pin_names (inputs_of prim)) input → is_through prim input output ≡ true
      → ReadsOne (dotted cell output) (dotted cell input)
  cell_reads cell prim output input is gives takes through = (
    record {
      path = is.path;
      c = is.c;
      at = is.at;
      from = port_of is.cell output;
      to = port_of is.cell input;
      reads = ByPrimitive is.c (port_of is.cell output) (port_of is.cell input) (record {
        cell = is.cell;
        prim = prim;
        made = is.made;
        output = output;
        input = input;
        depends = record { is_output = gives; is_input = takes; through = through };
        is_output = refl;
        is_input = refl;
      });
      is_port = ap (λ (x : Text). dotted x output) is.named;
      is_other = ap (λ (x : Text). dotted x input) is.named;
    },
    input_port design top rules in_design cell prim input is takes,
  )

  pub orderly : IsOrderly (circuit design top progress) ports ReadsOne
  orderly = record {
    decide = decide_role design top plain rules in_design progress;
    one = one_role design top plain rules in_design progress;
    sinks = λ name drive sink. listed name (role_port design top plain rules in_design progress name (Driven drive sink));
    drives = drive_follows design top progress rules in_design;
    cells = cell_reads;
    known = λ x y reads. listed y reads.1;
    no_loop = λ x loop. no_loop_over_paths Unreserved design top plain rules.keeps rules.no_loop in_design x (flat x x loop);
  }
