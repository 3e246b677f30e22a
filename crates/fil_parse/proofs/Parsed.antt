-- What reading the terminals of a text tells of the text.
use Rattle.std.proofs.Common.{◌≡◌, ℕ, ◌-◌, ◌≤◌, List, length, Result, Ok, Err, sym, subst, arith}
use Rattle.hw_names.specs.Name.{Text}
use Rattle.hw_lex.specs.declared.token.Dialect.{Dialect}
use Rattle.hw_lex.specs.declared.token.Dialect.TheVariants.{Fil}
use Rattle.hw_lex.specs.declared.token.Token.{Token}
use Rattle.hw_lex.specs.Cut.{AreTokens, token_texts}
use Rattle.hw_lex.specs.Nesting.{nesting_of}
use Rattle.hw_lex.proofs.Cuts.{tokens_unique}
use Rattle.hw_grammar.specs.declared.terminal.Terminal.{Terminal}
use Rattle.hw_grammar.specs.Reading.{whole}
use Rattle.hw_grammar.specs.Terminals.{AreTerminals}
use Rattle.hw_grammar.specs.TextPlace.{IsLexed, byte_of}
use Rattle.hw_grammar.proofs.Exact.{Begins-length}
use Rattle.hw_grammar.proofs.Whole.{Judged, place_of}
use Rattle.hw_grammar.proofs.Texts.{text_spelled, text_refused, length-AreTerminals}
use Rattle.fil_ast.specs.Tree.{Design}
use Rattle.hw_limits.specs.declared.limits.TheConstants.{MOST_NESTING}
use Rattle.fil_parse.specs.declared.parse.FilTextEnd.{FilTextEnd}
use Rattle.fil_parse.specs.declared.parse.FilTextEnd.TheVariants as ends
use Rattle.fil_parse.specs.Grammar.{IsFile}
use Rattle.fil_parse.specs.inside.Reading.{file_at}
use Rattle.fil_parse.specs.inside.Refusal.{IsRefusedFrom}
use Rattle.fil_parse.specs.Spelling.{SpellsDesign, IsRefusedAt, KeepsNesting, GrammarEnds, EndsBy}
use Rattle.fil_parse.proofs.Exactness.{file_judged}

judged_as : (names : List Text) (ts us : List Terminal) (r : Result Design (List Terminal)) → us ≡ ts → whole (file_at names us) ≡ r → Judged (IsFile names) ts r
judged_as names ts us r same e =
    let at : Judged (IsFile names) us r = subst (λ (x : Result Design (List Terminal)). Judged (IsFile names) us x) e (file_judged names us) in
    subst (λ (x : List Terminal). Judged (IsFile names) x r) same at

module _ (dialect : Dialect) (names : List Text) (source : List ℕ) (tokens : List Token) (ts us : List Terminal) (of : dialect ≡ Fil) (cut : AreTokens Fil source tokens) (are : AreTerminals dialect names source tokens ts) (same : us ≡ ts) where
  lexed : IsLexed Fil names source tokens ts
  lexed = record { tokens_are = cut; terminals_are = subst (λ (d : Dialect). AreTerminals d names source tokens ts) of are }

  pub read_spelled : (design : Design) → whole (file_at names us) ≡ Ok design → SpellsDesign source design
  read_spelled design e = (names, text_spelled Fil (IsFile names) names source tokens ts design lexed (judged_as names ts us (Ok design) same e).0)

  pub read_refused : (bad : List Terminal) → whole (file_at names us) ≡ Err bad → IsRefusedFrom source bad
  read_refused bad e =
      let r = judged_as names ts us (Err bad) same e in (
        tokens,
        cut,
        omega (arith, Begins-length r.begun.3, length-AreTerminals dialect names source tokens ts are),
        (names, text_refused Fil (IsFile names) names source tokens ts bad lexed (place_of (IsFile names) ts bad r)),
      )

-- by the tokens of a text that is cut once more
pub refused_again : (text source : List ℕ) (tokens : List Token) (rest : List Terminal) → source ≡ text → AreTokens Fil text tokens → IsRefusedFrom text rest
    → (length rest ≤ length tokens) × IsRefusedAt text (byte_of source tokens (length tokens - length rest))
refused_again text source tokens rest same cut (first, of, within, refused) =
    subst (λ (s : List ℕ). (length rest ≤ length tokens) × IsRefusedAt text (byte_of s tokens (length tokens - length rest))) (sym same)
    (subst (λ (ts : List Token). (length rest ≤ length ts) × IsRefusedAt text (byte_of text ts (length ts - length rest))) (tokens_unique Fil text first tokens of cut) (within, refused))

pub keeps_nesting : (text source : List ℕ) (tokens : List Token) (count : ℕ) → source ≡ text → AreTokens Fil text tokens → count ≡ nesting_of (token_texts source tokens) → count ≤ MOST_NESTING → KeepsNesting text
keeps_nesting text source tokens count same cut e le = (count, (tokens, cut, subst (λ (s : List ℕ). count ≡ nesting_of (token_texts s tokens)) same e), le)

pub grammar_ends : (text source : List ℕ) (e : FilTextEnd) → source ≡ text → KeepsNesting text → GrammarEnds source e → EndsBy text e
grammar_ends text source (ends.Token at) same k g = absurd g
grammar_ends text source (ends.Nesting count) same k g = absurd g
grammar_ends text source (ends.Grammar at) same k g = (k, subst (λ (s : List ℕ). IsRefusedAt s at) same g)
grammar_ends text source (ends.Offset count) same k g = absurd g
grammar_ends text source ends.Memory same k g = tt
