use Rattle.std.proofs.Common.{Global, Vec, option_map, sym, ap, ◌∙◌}
use Rattle.serde_json.specs.View.{view}
use Rattle.stim_read.specs.declared.given.Given.{Given}
use Rattle.stim_read.proofs.MeaningLemmas.{entry_shapeless, entry_no_from, entry_no_given, entry_is}
use Rattle.stim_read.proofs.cycle_text.read_entry.Goals as goal

pub returns-then-not-is_object_of : goal.returns-then-not-is_object_of
returns-then-not-is_object_of c = sym (entry_shapeless c.args.version (view c.args.value.now) (sym c.is_object_of.ensures ∙ c.if-not-is_object_of.true))

pub returns-in_default : goal.returns-in_default
returns-in_default c =
    sym (entry_no_from c.args.version (view c.args.value.now) (sym c.is_object_of.ensures ∙ c.if-not-is_object_of.false) (sym c.number_at.ensures ∙ c.in_default.is))

pub returns-in_default-2 : goal.returns-in_default-2
returns-in_default-2 c =
    sym (entry_no_given c.args.version (view c.args.value.now) c.in-Some.from (sym c.is_object_of.ensures ∙ c.if-not-is_object_of.false) (sym c.number_at.ensures ∙ c.in-Some.is)
    (sym c.in_ok-given.ensures ∙ ap (option_map (λ (v : Vec Given Global). v.items)) c.in_default-2.is))

pub returns : goal.returns
returns c =
    sym (entry_is c.args.version (view c.args.value.now) c.in-Some.from c.in-Some-2.given.items (sym c.is_object_of.ensures ∙ c.if-not-is_object_of.false) (sym c.number_at.ensures ∙ c.in-Some.is)
    (sym c.in_ok-given.ensures ∙ ap (option_map (λ (v : Vec Given Global). v.items)) c.in-Some-2.is))
