use Rattle.std.proofs.Common.{Global, Vec, option_map, sym, ap, ◌∙◌}
use Rattle.serde_json.specs.View.{view}
use Rattle.stim_read.specs.TxText.{repeat_at, event_at}
use Rattle.stim_read.specs.declared.given.Given.{Given}
use Rattle.stim_read.proofs.TxMeaningLemmas.{HasMembers, tx_shapeless, tx_no_start, tx_no_given, tx_no_repeat, tx_no_event, tx_too_late, tx_is}
use Rattle.stim_read.proofs.tx_text.read_tx_entry.Goals as goal

pub returns-then-not-has_entry_keys : goal.returns-then-not-has_entry_keys
returns-then-not-has_entry_keys c = sym (tx_shapeless c.args.version (view c.args.value.now) (sym c.has_entry_keys.ensures ∙ c.if-not-has_entry_keys.true))

pub returns-in_default : goal.returns-in_default
returns-in_default c = sym (tx_no_start c.args.version (view c.args.value.now) (sym c.has_entry_keys.ensures ∙ c.if-not-has_entry_keys.false) (sym c.number_at.ensures ∙ c.in_default.is))

pub returns-in_default-2 : goal.returns-in_default-2
returns-in_default-2 c =
    sym (tx_no_given c.args.version (view c.args.value.now) c.in-Some.start (sym c.has_entry_keys.ensures ∙ c.if-not-has_entry_keys.false) (sym c.number_at.ensures ∙ c.in-Some.is)
    (sym c.in_ok-given.ensures ∙ ap (option_map (λ (v : Vec Given Global). v.items)) c.in_default-2.is))

pub returns-in_default-repeat_at : goal.returns-in_default-repeat_at
returns-in_default-repeat_at c =
    sym (tx_no_repeat c.args.version (view c.args.value.now) c.in-Some.start c.in-Some-2.given.items (sym c.has_entry_keys.ensures ∙ c.if-not-has_entry_keys.false) (sym c.number_at.ensures ∙ c.in-Some.is)
    (sym c.in_ok-given.ensures ∙ ap (option_map (λ (v : Vec Given Global). v.items)) c.in-Some-2.is) (ap repeat_at (sym c.get.ensures) ∙ sym c.repeat_at.ensures ∙ c.in_default-repeat_at.is))

pub returns-in_default-3 : goal.returns-in_default-3
returns-in_default-3 c =
    sym (tx_no_event c.args.version (view c.args.value.now) c.in-Some.start c.in-Some-2.given.items c.in-Some-repeat_at.repeat (sym c.has_entry_keys.ensures ∙ c.if-not-has_entry_keys.false) (sym c.number_at.ensures ∙ c.in-Some.is)
    (sym c.in_ok-given.ensures ∙ ap (option_map (λ (v : Vec Given Global). v.items)) c.in-Some-2.is) (ap repeat_at (sym c.get.ensures) ∙ sym c.repeat_at.ensures ∙ c.in-Some-repeat_at.is)
    (ap event_at (sym c.get-2.ensures) ∙ sym c.in_ok-event.ensures ∙ c.in_default-3.is))

pub returns-then-not-starts_fit : goal.returns-then-not-starts_fit
returns-then-not-starts_fit c =
    let m : HasMembers c.args.version (view c.args.value.now) c.in-Some.start c.in-Some-2.given.items c.in-Some-repeat_at.repeat c.in-Some-3.event = record {
      shape = sym c.has_entry_keys.ensures ∙ c.if-not-has_entry_keys.false;
      start_is = sym c.number_at.ensures ∙ c.in-Some.is;
      given_is = sym c.in_ok-given.ensures ∙ ap (option_map (λ (v : Vec Given Global). v.items)) c.in-Some-2.is;
      repeat_is = ap repeat_at (sym c.get.ensures) ∙ sym c.repeat_at.ensures ∙ c.in-Some-repeat_at.is;
      event_is = ap event_at (sym c.get-2.ensures) ∙ sym c.in_ok-event.ensures ∙ c.in-Some-3.is;
    } in
    sym (tx_too_late c.args.version (view c.args.value.now) c.in-Some.start c.in-Some-2.given.items c.in-Some-repeat_at.repeat c.in-Some-3.event m (sym c.starts_fit.ensures ∙ c.if-not-starts_fit.true))

pub returns : goal.returns
returns c =
    let m : HasMembers c.args.version (view c.args.value.now) c.in-Some.start c.in-Some-2.given.items c.in-Some-repeat_at.repeat c.in-Some-3.event = record {
      shape = sym c.has_entry_keys.ensures ∙ c.if-not-has_entry_keys.false;
      start_is = sym c.number_at.ensures ∙ c.in-Some.is;
      given_is = sym c.in_ok-given.ensures ∙ ap (option_map (λ (v : Vec Given Global). v.items)) c.in-Some-2.is;
      repeat_is = ap repeat_at (sym c.get.ensures) ∙ sym c.repeat_at.ensures ∙ c.in-Some-repeat_at.is;
      event_is = ap event_at (sym c.get-2.ensures) ∙ sym c.in_ok-event.ensures ∙ c.in-Some-3.is;
    } in
    sym (tx_is c.args.version (view c.args.value.now) c.in-Some.start c.in-Some-2.given.items c.in-Some-repeat_at.repeat c.in-Some-3.event m (sym c.starts_fit.ensures ∙ c.if-not-starts_fit.false))
