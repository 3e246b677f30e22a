use Rattle.std.proofs.Common.{refl, map, subst, sym, arith}
use Rattle.std.proofs.lemmas.Bool.Decides.{not_from_Decides}
use Rattle.fil_ast.specs.Tree.{Giving, value_tree}
use Rattle.fil_sig.specs.Seen.{seen}
use Rattle.fil_rules.specs.inside.Invocation.{HoldsNone, Misses, Outlasts, TellsTimes}
use Rattle.fil_rules.specs.declared.rules.ItemEnd.{ItemEnd}
use Rattle.fil_rules.proofs.timeline.judge_invocation.Goals as goal

pub returns-then-not-holds_some-clause-broken : goal.returns-then-not-holds_some-clause-broken
returns-then-not-holds_some-clause-broken c scope times inst place distinct are =
    let gives : Giving = record { times = times; args = map (value_tree c.args.place.now.names.now) c.args.args.now } in
    let T : ItemEnd → Type 0 = TellsTimes scope (seen c.args.sig.now) inst gives in
    subst T (sym c.breaks.ensures) (HoldsNone (not_from_Decides c.holds_some.result (c.holds_some.ensures c.args.place.now.tables.now.events times are) c.if-not-holds_some.true) refl refl)

pub returns-in-Some-clause-broken : goal.returns-in-Some-clause-broken
returns-in-Some-clause-broken c scope times inst place distinct are =
    Misses ((c.holds_some.ensures c.args.place.now.tables.now.events times are).0 c.if-not-holds_some.false) c.in-Some.offset (c.in-Some.ensures.cases scope times place distinct are) refl refl

pub returns-then-not-keeps_delays-clause-broken : goal.returns-then-not-keeps_delays-clause-broken
returns-then-not-keeps_delays-clause-broken c scope times inst place distinct are =
    let names = c.args.place.now.names.now in
    let events = c.args.place.now.tables.now.events in
    let args = map (value_tree names) c.args.args.now in
    let T : ItemEnd → Type 0 = TellsTimes scope (seen c.args.sig.now) inst (record { times = times; args = args }) in
    subst T (sym c.breaks-then-not-keeps_delays.ensures)
    (Outlasts ((c.holds_some.ensures events times are).0 c.if-not-holds_some.false) (c.in_default.ensures.cases scope times place distinct are)
    (not_from_Decides c.keeps_delays.result (c.keeps_delays.ensures names events times scope inst args place.is_comp place.shows.events distinct are) c.if-not-keeps_delays.true)
    refl refl)

pub overflow_cast-result : goal.overflow_cast-result
overflow_cast-result c = let small = c.in-Some.ensures.small c.requires.times in omega arith

pub returns-clause-kept : goal.returns-clause-kept
returns-clause-kept c scope times inst place distinct are =
    let names = c.args.place.now.names.now in
    let events = c.args.place.now.tables.now.events in
    let args = map (value_tree names) c.args.args.now in
    record {
      holds = (c.holds_some.ensures events times are).0 c.if-not-holds_some.false;
      reads = c.in_default.ensures.cases scope times place distinct are;
      delays = (c.keeps_delays.ensures names events times scope inst args place.is_comp place.shows.events distinct are).0 c.if-not-keeps_delays.false;
    }
