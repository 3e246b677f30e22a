-- What reading the terminals of a text tells of the text.
use Rattle.std.proofs.Common.{◌≡◌, ℕ, ◌-◌, ◌≤◌, List, length, Result, Ok, Err, sym, subst, arith}
use Rattle.std.specs.Prelude.{IfOk, IfErr}
use Rattle.hw_names.specs.Name.{Text}
use Rattle.hw_lex.specs.declared.token.Dialect.{Dialect}
use Rattle.hw_lex.specs.declared.token.Dialect.TheVariants.{Filp}
use Rattle.hw_lex.specs.declared.token.Token.{Token}
use Rattle.hw_lex.specs.Cut.{AreTokens, token_texts}
use Rattle.hw_lex.specs.Nesting.{nesting_of}
use Rattle.hw_lex.proofs.Cuts.{tokens_unique}
use Rattle.hw_grammar.specs.declared.terminal.Terminal.{Terminal}
use Rattle.hw_grammar.specs.Reading.{whole}
use Rattle.hw_grammar.specs.Terminals.{AreTerminals}
use Rattle.hw_grammar.specs.TextPlace.{IsLexed, byte_of}
use Rattle.hw_grammar.proofs.Exact.{Begins-length}
use Rattle.hw_grammar.proofs.Whole.{Judged, place_of}
use Rattle.hw_grammar.proofs.Texts.{text_spelled, text_refused, length-AreTerminals}
use Rattle.hw_limits.specs.declared.limits.TheConstants.{MOST_NESTING}
use Rattle.par_parse.specs.declared.parse.FilpTextEnd.{FilpTextEnd}
use Rattle.par_parse.specs.declared.parse.FilpTextEnd.TheVariants as ends
use Rattle.par_parse.specs.declared.tree.ParamDesign.{ParamDesign}
use Rattle.par_parse.specs.Tree.{DesignTree, design_of}
use Rattle.par_parse.specs.Grammar.{IsFile}
use Rattle.par_parse.specs.inside.Reading.{file_at}
use Rattle.par_parse.specs.inside.Refusal.{IsRefusedFrom}
use Rattle.par_parse.specs.Spelling.{SpellsDesign, IsRefusedAt, KeepsNesting, GrammarEnds, EndsBy}
use Rattle.par_parse.proofs.Exactness.{file_judged}

judged_as : (names : List Text) (ts us : List Terminal) (r : Result DesignTree (List Terminal)) → us ≡ ts → whole (file_at names us) ≡ r → Judged (IsFile names) ts r
judged_as names ts us r same e =
    let at : Judged (IsFile names) us r = subst (λ (x : Result DesignTree (List Terminal)). Judged (IsFile names) us x) e (file_judged names us) in
    subst (λ (x : List Terminal). Judged (IsFile names) x r) same at

module _ (dialect : Dialect) (names : List Text) (source : List ℕ) (tokens : List Token) (ts us : List Terminal) (of : dialect ≡ Filp) (cut : AreTokens Filp source tokens) (are : AreTerminals dialect names source tokens ts) (same : us ≡ ts) where
  lexed : IsLexed Filp names source tokens ts
  lexed = record { tokens_are = cut; terminals_are = subst (λ (d : Dialect). AreTerminals d names source tokens ts) of are }

  pub read_spelled : (design : DesignTree) → whole (file_at names us) ≡ Ok design → SpellsDesign source design
  read_spelled design e = (names, text_spelled Filp (IsFile names) names source tokens ts design lexed (judged_as names ts us (Ok design) same e).0)

  pub read_refused : (bad : List Terminal) → whole (file_at names us) ≡ Err bad → IsRefusedFrom source bad
  read_refused bad e =
      let r = judged_as names ts us (Err bad) same e in (
        tokens,
        cut,
        omega (arith, Begins-length r.begun.3, length-AreTerminals dialect names source tokens ts are),
        (names, text_refused Filp (IsFile names) names source tokens ts bad lexed (place_of (IsFile names) ts bad r)),
      )

-- by the tokens of a text that is cut once more
pub refused_again : (text source : List ℕ) (tokens : List Token) (rest : List Terminal) → source ≡ text → AreTokens Filp text tokens → IsRefusedFrom text rest
    → (length rest ≤ length tokens) × IsRefusedAt text (byte_of source tokens (length tokens - length rest))
refused_again text source tokens rest same cut (first, of, within, refused) =
    subst (λ (s : List ℕ). (length rest ≤ length tokens) × IsRefusedAt text (byte_of s tokens (length tokens - length rest))) (sym same)
    (subst (λ (ts : List Token). (length rest ≤ length ts) × IsRefusedAt text (byte_of text ts (length ts - length rest))) (tokens_unique Filp text first tokens of cut) (within, refused))

pub keeps_nesting : (text source : List ℕ) (tokens : List Token) (count : ℕ) → source ≡ text → AreTokens Filp text tokens → count ≡ nesting_of (token_texts source tokens) → count ≤ MOST_NESTING → KeepsNesting text
keeps_nesting text source tokens count same cut e le = (count, (tokens, cut, subst (λ (s : List ℕ). count ≡ nesting_of (token_texts s tokens)) same e), le)

grammar_ends : (text : List ℕ) (e : FilpTextEnd) → KeepsNesting text → GrammarEnds text e → EndsBy text e
grammar_ends text (ends.Token at) k g = absurd g
grammar_ends text (ends.Nesting count) k g = absurd g
grammar_ends text (ends.Grammar at) k g = (k, g)
grammar_ends text ends.Memory k g = tt

-- of the tokens of a text
module _ (text source : List ℕ) (same : source ≡ text) (nested : KeepsNesting text) where
  pub read_text : (r : Result ParamDesign FilpTextEnd) → IfOk r (λ d. SpellsDesign source (design_of d)) → IfOk r (λ d. SpellsDesign text (design_of d))
  read_text (Ok d) s = subst (λ (t : List ℕ). SpellsDesign t (design_of d)) same s
  read_text (Err e) s = tt

  pub read_nested : (r : Result ParamDesign FilpTextEnd) → IfOk r (λ d. KeepsNesting text)
  read_nested (Ok d) = nested
  read_nested (Err e) = tt

  pub read_ends : (r : Result ParamDesign FilpTextEnd) → IfErr r (GrammarEnds source) → IfErr r (EndsBy text)
  read_ends (Ok d) g = tt
  read_ends (Err e) g = grammar_ends text e nested (subst (λ (t : List ℕ). GrammarEnds t e) same g)
