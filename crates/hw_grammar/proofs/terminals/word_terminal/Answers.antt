use Rattle.std.proofs.Common.{List, inl, inr, subst, sym}
use Rattle.std.proofs.lemmas.List.Elements.{All-push}
use Rattle.hw_names.specs.Name.{Text, IsPlain, HasPlainNames}
use Rattle.hw_grammar.proofs.PlainNames.{name_plain}
use Rattle.hw_grammar.proofs.terminals.word_terminal.Goals as goal

pub returns-clause-plain : goal.returns-clause-plain
returns-clause-plain c = λ old.
    let word = name_plain c.args.dialect c.args.word.now c.requires in
    elim c.intern.ensures.grown as (λ _. HasPlainNames c.intern.new.self) [
      | inl e ↦ subst (λ (x : List Text). HasPlainNames x) (sym e) old
      | inr e ↦ subst (λ (x : List Text). HasPlainNames x) (sym e) (All-push IsPlain c.args.names.now c.args.word.now old word)
    ]
