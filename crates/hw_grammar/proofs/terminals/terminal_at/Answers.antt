use Rattle.std.proofs.Common.{◌∙◌}
use Rattle.hw_grammar.proofs.TerminalLemmas.{terminal_found, mark_no_name}
use Rattle.hw_grammar.proofs.terminals.terminal_at.Goals as goal

pub returns-in-Literal-clause-terminal : goal.returns-in-Literal-clause-terminal
returns-in-Literal-clause-terminal c =
    let b = c.bare-t-in-Literal.ensures in
    let numbers = rw c.text-word.ensures.bytes at c.literal-literal.ensures in
    terminal_found c.args.tokens.now.dialect c.args.names.now c.args.tokens.now.source c.args.tokens.now.tokens c.args.i c.text-word.result.now c.token.result _ c.text-word.ensures.bytes c.token.ensures
    (rw c.in-Literal.is (record { sort = b.sort; name = rw b.sort b.name; special = b.special; width = numbers.0; value = numbers.1 }))

pub returns-in-Text-clause-terminal : goal.returns-in-Text-clause-terminal
returns-in-Text-clause-terminal c =
    let b = c.bare.ensures in
    terminal_found c.args.tokens.now.dialect c.args.names.now c.args.tokens.now.source c.args.tokens.now.tokens c.args.i c.text-word.result.now c.token.result _ c.text-word.ensures.bytes c.token.ensures
    (rw c.in-Text.is (record { sort = b.sort; name = rw b.sort b.name; special = b.special ∙ c.special_text.ensures; width = b.width; value = b.value }))

pub returns-in-Mark-clause-terminal : goal.returns-in-Mark-clause-terminal
returns-in-Mark-clause-terminal c =
    let b = c.bare-in-Mark.ensures in
    terminal_found c.args.tokens.now.dialect c.args.names.now c.args.tokens.now.source c.args.tokens.now.tokens c.args.i c.text-word.result.now c.token.result _ c.text-word.ensures.bytes c.token.ensures
    (rw c.in-Mark.is (record { sort = b.sort ∙ c.mark.ensures; name = rw (b.sort, c.mark.ensures, mark_no_name c.text-word.result.now) b.name; special = b.special; width = b.width; value = b.value }))
