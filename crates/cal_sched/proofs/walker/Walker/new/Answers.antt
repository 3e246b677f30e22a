use Rattle.std.proofs.Common.{◌≡◌, length, map, ap, ◌∙◌, arith}
use Rattle.std.proofs.lemmas.List.Elements.{All-same}
use Rattle.std.specs.Prelude.{Contains}
use Rattle.cal_ast.specs.Actors.{actors_of}
use Rattle.cal_ast.specs.declared.tree.CalPort.{CalPort}
use Rattle.cal_sched.proofs.KnownLemmas.{conditions_there, go_there}
use Rattle.cal_sched.proofs.SightLemmas.{count_actors}
use Rattle.cal_sched.specs.Watching.{top_port}
use Rattle.cal_sched.proofs.walker.Walker.new.Goals as goal

pub numbers_of-requires-clause-there : goal.numbers_of-requires-clause-there
numbers_of-requires-clause-there c =
    let (design, comp, can) = c.requires in
    let names = c.args.names.now in
    let ports = c.args.ports.now in
    let control = c.args.control.now in
    All-same (λ (p : CalPort). Contains ports (top_port names p)) c.deref.result.now control.conditions.items c.deref.ensures.value (conditions_there design comp names ports control can)

pub number_of-requires : goal.number_of-requires
number_of-requires c =
    let (design, comp, can) = c.requires in
    go_there design comp c.args.names.now c.args.ports.now c.args.control.now can

pub returns-clause-is : goal.returns-clause-is
returns-clause-is c = λ design comp can.
    let names = c.args.names.now in
    let control = c.args.control.now in
    let actors : c.actors-actors.result ≡ length (actors_of comp) = c.actors-actors.ensures ∙ count_actors design comp names c.args.ports.now control can in
    let conditions : c.len-conditions.result ≡ length control.conditions.items = c.len-conditions.ensures ∙ control.conditions.ok.0 in
    record {
      can = can;
      watches = c.in_ok-watches_of.ensures design comp can;
      conditions = c.in_ok-numbers_of.ensures.numbers ∙ ap (map (top_port names)) c.deref.ensures.value;
      conditions_within = c.in_ok-numbers_of.ensures.within;
      go = c.in_ok-number_of.ensures;
      done_sized = omega (arith, c.in_ok-vec.ensures.len, c.in_ok-vec.field-0.ok.0, actors);
      reads_sized = omega (arith, c.in_ok-vec-2.ensures.len, c.in_ok-vec-2.field-0.ok.0, conditions);
      enabled_sized = omega (arith, c.in_ok-vec-3.ensures.len, c.in_ok-vec-3.field-0.ok.0, actors);
      tested_sized = omega (arith, c.in_ok-vec-4.ensures.len, c.in_ok-vec-4.field-0.ok.0, actors);
      acting_sized = omega (arith, c.in_ok-vec-5.ensures.len, c.in_ok-vec-5.field-0.ok.0, actors);
      stage = tt;
    }
