use Rattle.std.proofs.Common.{Contains, IsSome, None}
use Rattle.hw_names.specs.declared.names.NameId.{NameId}
use Rattle.hw_texts.proofs.TextLemmas.{distinct_more, other_behind, texts_kept}
use Rattle.hw_texts.proofs.texts.Texts.number.Goals as goal

pub invariant_of-self-2 : goal.invariant_of-self-2
invariant_of-self-2 c =
    let none : ¬ Contains c.self.inside.names.now c.args.text.now = (λ there. let some : IsSome {T = NameId} None = c.in_default.ensures.present.1 there in cc) in
    distinct_more c.self.inside.names.now c.self.inside.others c.intern.new.self c.args.text.now c.self.invariant none (λ there. (c.intern.ensures.present there).1) c.intern.ensures.grown

pub returns-clause-number : goal.returns-clause-number
returns-clause-number c = other_behind c.self.inside.names.now c.intern.new.self c.len-2.result c.in_ok-id.id.0 c.args.text.now c.len-2.ensures.len c.in_ok-id.ensures.text

pub returns-clause-kept : goal.returns-clause-kept
returns-clause-kept c = texts_kept c.self.inside.names.now c.self.inside.others c.intern.new.self c.args.self.now c.self.view_is c.intern.ensures.kept
