use Rattle.std.proofs.Common.{◌≡◌, ◌<◌, length, Some, sym, ap, subst, ◌∙◌}
use Rattle.std.specs.Prelude.{slice_get}
use Rattle.hw_lex.specs.declared.token.Token.{Token}
use Rattle.hw_lex.specs.Cut.{Lexed, token_texts}
use Rattle.hw_lex.proofs.Cuts.{IsTokenOf, token_of}
use Rattle.hw_lex.proofs.TokenTexts.{get_is, text_is}
use Rattle.hw_lex.proofs.tokens.Tokens.text.Goals as goal

pub bytes_at-requires : goal.bytes_at-requires
bytes_at-requires c =
    let lt : c.args.i < length c.self.inside.tokens.items = subst (λ (v : Lexed). c.args.i < length v.tokens) (sym c.self.view_is) c.requires in
    let at = token_of c.self.inside.dialect c.self.inside.source.now c.self.inside.tokens.items c.self.invariant c.args.i c.index.result.now lt in
    let token : IsTokenOf c.self.inside.dialect c.self.inside.source.now c.index.result.now = subst (λ (t : Token). IsTokenOf c.self.inside.dialect c.self.inside.source.now t) (sym c.index.ensures) at in
    record { order = token.order; within = token.within }

pub returns-clause-bytes : goal.returns-clause-bytes
returns-clause-bytes c =
    let lt : c.args.i < length c.self.inside.tokens.items = subst (λ (v : Lexed). c.args.i < length v.tokens) (sym c.self.view_is) c.requires in
    let is = text_is c.self.inside.source.now c.self.inside.tokens.items c.args.i c.index.result.now lt c.index.ensures in
    subst (λ (v : Lexed). slice_get (token_texts v.source v.tokens) c.args.i ≡ Some c.bytes_at.result.now) c.self.view_is (is ∙ ap Some (sym c.bytes_at.ensures))

pub returns-clause-form : goal.returns-clause-form
returns-clause-form c =
    let lt : c.args.i < length c.self.inside.tokens.items = subst (λ (v : Lexed). c.args.i < length v.tokens) (sym c.self.view_is) c.requires in
    let at = token_of c.self.inside.dialect c.self.inside.source.now c.self.inside.tokens.items c.self.invariant c.args.i c.index.result.now lt in
    let token : IsTokenOf c.self.inside.dialect c.self.inside.source.now c.index.result.now = subst (λ (t : Token). IsTokenOf c.self.inside.dialect c.self.inside.source.now t) (sym c.index.ensures) at in
    let found = get_is c.self.inside.tokens.items c.args.i c.index.result.now lt c.index.ensures in
    rw (← c.self.view_is, found, c.bytes_at.ensures) (token.word, token.fits)
