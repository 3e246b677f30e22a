use Rattle.std.proofs.Common.{◌≡◌, true, Some, sym, ◌∙◌, subst, List}
use Rattle.hw_names.specs.Name.{Text}
use Rattle.net_text.specs.inside.ReadResults.{Extends}
use Rattle.net_text.specs.inside.ReadLines.{line_of_text}
use Rattle.net_text.specs.inside.ReadTexts.{follows, netlist_with}
use Rattle.net_text.specs.inside.View.{line_of}
use Rattle.net_text.proofs.NameLemmas.{Extends-itself}
use Rattle.net_text.proofs.NetLemmas.{Adds, next_is, next_none, stays_settled}
use Rattle.net_text.proofs.netlists.add_line.Goals as goal

added : (c : goal.In_ok-push) → Adds c.args.net.now c.push.new.net c.in_ok-line.line c.args.text.now
added c = record {
  settled = c.requires.settled;
  extends = subst (λ (names : List Text). Extends c.args.net.now.names names) (sym c.push.ensures.names) c.in_ok-line.ensures.grows.extends;
  read = subst (λ (names : List Text). (later : List Text) → Extends names later → line_of_text c.args.text.now ≡ Some (line_of later c.in_ok-line.line)) (sym c.push.ensures.names) c.in_ok-line.ensures.read;
  pushed = c.in_ok-push.ensures.lines;
}

pub returns-clause-next : goal.returns-clause-next
returns-clause-next c = next_is c.args.net.now c.push.new.net c.in_ok-line.line c.args.text.now (added c)
    (subst (λ (names : List Text). follows (netlist_with names c.args.net.now) (line_of names c.in_ok-line.line) ≡ true) (sym c.push.ensures.names) (sym c.follows.ensures ∙ c.if-not-follows.false))

pub returns-clause-settled : goal.returns-clause-settled
returns-clause-settled c = stays_settled c.args.net.now c.push.new.net c.in_ok-line.line c.args.text.now (added c)

pub returns-then-not-follows-clause-next : goal.returns-then-not-follows-clause-next
returns-then-not-follows-clause-next c =
    next_none c.args.net.now c.line.new.names c.in_ok-line.line c.args.text.now c.requires.settled c.in_ok-line.ensures.grows.extends
    (c.in_ok-line.ensures.read c.line.new.names (Extends-itself c.line.new.names)) (sym c.follows.ensures ∙ c.if-not-follows.true)
