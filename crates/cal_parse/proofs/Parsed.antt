-- What reading the terminals of a text tells of the text.
use Rattle.std.proofs.Common.{◌≡◌, ℕ, zero, suc, ◌-◌, ◌≤◌, Bool, List, [], ◌∷◌, length, drop, Result, Ok, Err, refl, sym, ap, subst, arith}
use Rattle.std.specs.Prelude.{IfOk, IfErr}
use Rattle.hw_names.specs.Name.{Text}
use Rattle.hw_lex.specs.declared.token.Dialect.{Dialect}
use Rattle.hw_lex.specs.declared.token.Dialect.TheVariants.{Cal}
use Rattle.hw_lex.specs.declared.token.Token.{Token}
use Rattle.hw_lex.specs.Cut.{AreTokens, token_texts}
use Rattle.hw_lex.specs.Nesting.{nesting_of}
use Rattle.hw_lex.proofs.Cuts.{tokens_unique}
use Rattle.hw_grammar.specs.declared.terminal.Terminal.{Terminal}
use Rattle.hw_grammar.specs.Sort.{has}
use Rattle.hw_grammar.specs.Place.{Place}
use Rattle.hw_grammar.specs.Reading.{whole}
use Rattle.hw_grammar.specs.Terminals.{AreTerminals}
use Rattle.hw_grammar.specs.TextPlace.{IsLexed, byte_of}
use Rattle.hw_grammar.proofs.Exact.{Begins, start, next, Begins-length}
use Rattle.hw_grammar.proofs.Whole.{Judged, place_of}
use Rattle.hw_grammar.proofs.Texts.{text_spelled, length-AreTerminals}
use Rattle.cal_ast.specs.declared.tree.CalDesign.{CalDesign}
use Rattle.cal_ast.specs.Tree.{Design, design_of}
use Rattle.hw_limits.specs.declared.limits.TheConstants.{MOST_NESTING}
use Rattle.cal_parse.specs.declared.parse.CalTextEnd.{CalTextEnd}
use Rattle.cal_parse.specs.declared.parse.CalTextEnd.TheVariants as ends
use Rattle.cal_parse.specs.Grammar.{IsFile}
use Rattle.cal_parse.specs.inside.Reading.{file_at}
use Rattle.cal_parse.specs.inside.Refusal.{IsRefusedFrom}
use Rattle.cal_parse.specs.Spelling.{SpellsDesign, IsRefusedAt, left_out, is_left_out, KeepsNesting, GrammarEnds, EndsBy}
use Rattle.cal_parse.proofs.Exactness.{file_judged}

judged_as : (names : List Text) (ts us : List Terminal) (r : Result Design (List Terminal)) → us ≡ ts → whole (file_at names us) ≡ r → Judged (IsFile names) ts r
judged_as names ts us r same e =
    let at : Judged (IsFile names) us r = subst (λ (x : Result Design (List Terminal)). Judged (IsFile names) us x) e (file_judged names us) in
    subst (λ (x : List Terminal). Judged (IsFile names) x r) same at

-- what is left from the refused terminal on
begun_rest : {w ts bad : List Terminal} → Begins w ts bad → drop (length ts - length bad) ts ≡ bad
begun_rest (start {bad = bad}) = let k : length bad - length bad ≡ 0 = omega arith in rw k refl
begun_rest (next {t = t} {ts = ts} {bad = bad} b) =
    let le : length bad ≤ length ts = Begins-length b in
    let k : length (t ∷ ts) - length bad ≡ suc (length ts - length bad) = omega arith in
    rw k (begun_rest b)

module _ (dialect : Dialect) (names : List Text) (source : List ℕ) (tokens : List Token) (ts us : List Terminal) (of : dialect ≡ Cal) (cut : AreTokens Cal source tokens) (are : AreTerminals dialect names source tokens ts) (same : us ≡ ts) where
  lexed : IsLexed Cal names source tokens ts
  lexed = record { tokens_are = cut; terminals_are = subst (λ (d : Dialect). AreTerminals d names source tokens ts) of are }

  pub read_spelled : (design : Design) → whole (file_at names us) ≡ Ok design → SpellsDesign source design
  read_spelled design e = (names, text_spelled Cal (IsFile names) names source tokens ts design lexed (judged_as names ts us (Ok design) same e).0)

  refusal_of : (bad : List Terminal) → Place (IsFile names) ts (length tokens - length bad) → IsRefusedAt source (byte_of source tokens (length tokens - length bad))
  refusal_of bad place = record {
    names = names;
    tokens = tokens;
    terminals = ts;
    lexed = lexed;
    place = length tokens - length bad;
    refused = place;
    byte = refl;
  }

  pub read_refused : (bad : List Terminal) → whole (file_at names us) ≡ Err bad → IsRefusedFrom source bad
  unfolding refusal_of
  read_refused bad e =
      let r = judged_as names ts us (Err bad) same e in
      let n : length ts ≡ length tokens = length-AreTerminals dialect names source tokens ts are in
      let place : Place (IsFile names) ts (length tokens - length bad) = subst (λ (x : ℕ). Place (IsFile names) ts (x - length bad)) n (place_of (IsFile names) ts bad r) in
      let rest : drop (length tokens - length bad) ts ≡ bad = subst (λ (x : ℕ). drop (x - length bad) ts ≡ bad) n (begun_rest r.begun.3) in
      (tokens, cut, omega (arith, Begins-length r.begun.3, n), refusal_of bad place, ap (has left_out) rest)

-- the text is refused at this byte, at a word that is left out or not
abbrev pub IsRefusedSo : List ℕ → ℕ → Bool → Type 0
IsRefusedSo source at left = (refusal : IsRefusedAt source at) × (is_left_out refusal ≡ left)

-- by the tokens of a text that is cut once more
pub refused_again : (text source : List ℕ) (tokens : List Token) (rest : List Terminal) → source ≡ text → AreTokens Cal text tokens → IsRefusedFrom text rest
    → (length rest ≤ length tokens) × IsRefusedSo text (byte_of source tokens (length tokens - length rest)) (has left_out rest)
refused_again text source tokens rest same cut (first, of, within, refusal, word) =
    subst (λ (s : List ℕ). (length rest ≤ length tokens) × IsRefusedSo text (byte_of s tokens (length tokens - length rest)) (has left_out rest)) (sym same)
    (subst (λ (ts : List Token). (length rest ≤ length ts) × IsRefusedSo text (byte_of text ts (length ts - length rest)) (has left_out rest)) (tokens_unique Cal text first tokens of cut) (within, (refusal, word)))

-- at the same byte, by the same answer
pub refused_at : (text : List ℕ) (at place : ℕ) (left word : Bool) → at ≡ place → left ≡ word → IsRefusedSo text place word → IsRefusedSo text at left
refused_at text at place left word e f r = subst (λ (x : ℕ). IsRefusedSo text x left) (sym e) (subst (IsRefusedSo text place) (sym f) r)

pub keeps_nesting : (text source : List ℕ) (tokens : List Token) (count : ℕ) → source ≡ text → AreTokens Cal text tokens → count ≡ nesting_of (token_texts source tokens) → count ≤ MOST_NESTING → KeepsNesting text
keeps_nesting text source tokens count same cut e le = (count, (tokens, cut, subst (λ (s : List ℕ). count ≡ nesting_of (token_texts s tokens)) same e), le)

grammar_ends : (text : List ℕ) (e : CalTextEnd) → KeepsNesting text → GrammarEnds text e → EndsBy text e
grammar_ends text (ends.Token at) k g = absurd g
grammar_ends text (ends.Nesting count) k g = absurd g
grammar_ends text (ends.Grammar at) k g = (k, g)
grammar_ends text (ends.LeftOut at) k g = (k, g)
grammar_ends text ends.Memory k g = tt

-- of the tokens of a text
module _ (text source : List ℕ) (same : source ≡ text) (nested : KeepsNesting text) where
  pub read_text : (r : Result CalDesign CalTextEnd) → IfOk r (λ d. SpellsDesign source (design_of d)) → IfOk r (λ d. SpellsDesign text (design_of d) × KeepsNesting text)
  read_text (Ok d) s = (subst (λ (t : List ℕ). SpellsDesign t (design_of d)) same s, nested)
  read_text (Err e) s = tt

  pub read_ends : (r : Result CalDesign CalTextEnd) → IfErr r (GrammarEnds source) → IfErr r (EndsBy text)
  read_ends (Ok d) g = tt
  read_ends (Err e) g = grammar_ends text e nested (subst (λ (t : List ℕ). GrammarEnds t e) same g)
