-- A Calyx text gives a design or is refused, not both.
use Rattle.std.proofs.Common.{◌≡◌, ◌≢◌, ℕ, zero, suc, get_or, ◌∷◌, ◌<◌, List, [], length, map, take, codes, Some, refl, sym, ap, subst, ◌∙◌, arith}
use Rattle.std.specs.Prelude.{slice_get, Result, Ok, Err, IfErr}
use Rattle.hw_names.specs.Name.{Text, text_of}
use Rattle.hw_names.specs.declared.names.NameId.{NameId}
use Rattle.hw_lex.specs.declared.token.Dialect.TheVariants.{Cal}
use Rattle.hw_lex.specs.declared.token.Token.{Token}
use Rattle.hw_lex.specs.Cut.{FaultsAt, token_texts}
use Rattle.hw_lex.specs.Nesting.{nesting_of}
use Rattle.hw_lex.proofs.Cuts.{tokens_unique, tokens-no_fault}
use Rattle.hw_grammar.specs.declared.terminal.Terminal.{Terminal}
use Rattle.hw_grammar.proofs.Alike.{IsAlike, lexed_alike}
use Rattle.hw_grammar.proofs.Passing.{ArePairs}
use Rattle.net_core.specs.Numbers.{IsNumberOf}
use Rattle.cal_ast.specs.Naming.{Unreserved}
use Rattle.cal_ast.specs.Rules as rules
use Rattle.cal_ast.specs.Rules.{Keeps, CalRules, IsRefusal, all_rules}
use Rattle.cal_ast.specs.Tree.{Component, Design, component_tree, design_of}
use Rattle.cal_ast.specs.declared.tree.CalComp.{CalComp}
use Rattle.cal_ast.specs.declared.tree.CalDesign.{CalDesign}
use Rattle.cal_check.specs.Weight.{IsWeight, AreWords, own_weight, own_words}
use Rattle.cal_parse.specs.Grammar.{IsFile}
use Rattle.cal_parse.specs.Spelling.{SpellsDesign, IsNested, IsRefusedAt}
use Rattle.cal_ast.specs.Written.{IsCalName, ComponentIsWritten, DesignIsWritten}
use Rattle.cal_parse.proofs.Designs.{one_tree}
use Rattle.cal_parse.proofs.Passages.{passes-file}
use Rattle.filc_load.proofs.ListLemmas.{all_at, each_at}
use Rattle.filc_load.proofs.CostLemmas.{told_once}
use Rattle.filc_load.specs.Built.{IsUnfitCal, IsOverweightCal}
use Rattle.filc_load.specs.CalFile.{GivesCal, IsCalTextOf, IsAcceptedCalTextOf, IsLight, IsRefused, ByTokens, ByNesting, ByGrammar, ByWord, ByRule, ByWeight, ByWords}
use Rattle.filc_stop.specs.Lines.{limit_line, loop_text, rule_name, rule_line}
use Rattle.filc_stop.specs.declared.ended.Ended.{Ended}
use Rattle.filc_stop.specs.declared.ended.Ended.TheVariants.{Refused, Limit}
use Rattle.filc_stop.specs.declared.language.Language.TheVariants.{Calyx}
use Rattle.hw_limits.specs.declared.limits.TheConstants.{MOST_WEIGHT, MOST_WORDS}
use Rattle.filc_stop.specs.declared.stop.Stop.{Stop}

no_more : (R : Terminal → Terminal → Type 0) (others : List Terminal) → ArePairs R [] others → others ≡ []
no_more R [] p = refl
no_more R (u ∷ others) p = absurd p

-- a text that spells a design isn't refused by the grammar, whatever the numbers of names are there
spelled_not_refused : (text : Text) (design : Design) (at : ℕ) → SpellsDesign text design → IsRefusedAt text at → ⊥
spelled_not_refused text design at (old, (tokens, ts, lexed, spells)) refused =
    let new = refused.names in
    let us = refused.terminals in
    let passed = passes-file old new ts us design [] (lexed_alike Cal old new text tokens refused.tokens ts us lexed refused.lexed) spells in
    refused.refused.2 design (subst (λ (x : List Terminal). IsFile new us design x) (no_more (IsAlike Cal old new) passed.1.0 passed.1.1) passed.1.2)

-- a text that spells a design has tokens
spelled_no_fault : (text : Text) (design : Design) (at : ℕ) → SpellsDesign text design → FaultsAt Cal text at → ⊥
spelled_no_fault text design at (names, (tokens, ts, lexed, spells)) fault = tokens-no_fault Cal text tokens at lexed.tokens_are fault

-- brackets are one deep
pub same_nesting : (text : Text) (a b : ℕ) → IsNested text a → IsNested text b → a ≡ b
same_nesting text a b (tokens, are, is) (others, are', is') =
    is ∙ ap (λ (ts : List Token). nesting_of (token_texts text ts)) (tokens_unique Cal text tokens others are are') ∙ sym is'

-- a design that keeps the rules is not refused by one
kept_not_refused : (design : Design) (rule : ℕ) (name : Text) (item : ℕ) (ports : List Text) → CalRules design → IsRefusal design name item ports rule → ⊥
kept_not_refused design _ name item ports kept (rules.BreaksRule n place first named none) =
    first.broken (all_at (Keeps Unreserved design (take n design) first.c first.item) all_rules place first.rule (kept.keeps n first.c first.at item first.item first.here) first.numbered)
kept_not_refused design _ name item ports kept (rules.HasLoop n port others loop named here told) = kept.no_loop n loop.c loop.at port others loop.loop.is_loop

pub given_cal_not_refused : (text : Text) (design : Design) (ended : Ended) (line : Text) → GivesCal text design → IsRefused text ended line → ⊥
given_cal_not_refused text design ended line gives (ByTokens cause) = spelled_no_fault text design cause.at gives.accepted.text_of.spells cause.faults
given_cal_not_refused text design ended line gives (ByNesting cause) =
    let shallow = gives.accepted.text_of.shallow in
    let deep = cause.deep in
    omega (arith, deep, shallow.2, same_nesting text cause.depth shallow.0 cause.nested shallow.1)
given_cal_not_refused text design ended line gives (ByGrammar cause) = spelled_not_refused text design cause.at gives.accepted.text_of.spells cause.refusal
given_cal_not_refused text design ended line gives (ByWord cause) = spelled_not_refused text design cause.at gives.accepted.text_of.spells cause.refusal
given_cal_not_refused text design ended line gives (ByRule cause) =
    kept_not_refused cause.design cause.rule cause.name cause.item cause.ports
    (subst CalRules (one_tree text design cause.design gives.accepted.text_of.spells cause.text_of.spells) gives.accepted.rules) cause.first
given_cal_not_refused text design ended line gives (ByWeight cause) =
    let same = one_tree text cause.design design cause.accepted.text_of.spells gives.accepted.text_of.spells in
    let weighs : IsWeight design cause.weight = subst (λ (d : Design). IsWeight d cause.weight) same cause.weighs in
    let weight = told_once design own_weight cause.weight gives.light.weight weighs gives.light.weighs in
    let heavy = cause.heavy in
    omega (arith, heavy, gives.light.light, weight)
given_cal_not_refused text design ended line gives (ByWords cause) =
    let same = one_tree text cause.design design cause.accepted.text_of.spells gives.accepted.text_of.spells in
    let has : AreWords design cause.words = subst (λ (d : Design). AreWords d cause.words) same cause.has in
    let words = told_once design own_words cause.words gives.few_words.words has gives.few_words.has in
    let many = cause.many in
    omega (arith, many, gives.few_words.few, words)

-- ---- the refusal of a design

-- a name of the grammar has a number
number_in : (names : List Text) (k : ℕ) → IsCalName (get_or names k []) → k < length names
number_in [] k named = absurd named.0
number_in (x ∷ names) zero named = omega arith
number_in (x ∷ names) (suc k) named = let rest = number_in names k named in omega arith

-- the name of a component of such a design is one of its names
component_number : (d : CalDesign) (comp : NameId) (n : ℕ) (c : Component) → DesignIsWritten (design_of d) → slice_get (design_of d) n ≡ Some c → c.name ≡ text_of d.names comp → IsNumberOf d.names comp
component_number d comp n c written at named =
    let of_component = each_at ComponentIsWritten (design_of d) n c written.1 at in
    number_in d.names comp.0 (subst IsCalName named of_component.name)

pub refusal_number : (d : CalDesign) (rule : ℕ) (comp : NameId) (item : ℕ) (ports : List Text) → DesignIsWritten (design_of d) → IsRefusal (design_of d) (text_of d.names comp) item ports rule → IsNumberOf d.names comp
refusal_number d _ comp item ports written (rules.BreaksRule n place first named none) = component_number d comp n first.c written first.at named
refusal_number d _ comp item ports written (rules.HasLoop n port others loop named here told) = component_number d comp n loop.c written loop.at named

-- the first broken rule is told, with the ports that it shows
pub design_refused : (d : CalDesign) (rule : ℕ) (comp : NameId) (item : ℕ) (ports : List Text) (name : Text) → IsRefusal (design_of d) (text_of d.names comp) item ports rule → text_of d.names comp ≡ name
    → (text : Text) → IsCalTextOf (design_of d) text → IsRefused text Refused (rule_line (rule_name Calyx rule) name item (loop_text ports))
design_refused d rule comp item ports name refused named text of = ByRule (record {
  design = design_of d;
  rule = rule;
  name = name;
  item = item;
  ports = ports;
  text_of = of;
  first = subst (λ (t : Text). IsRefusal (design_of d) t item ports rule) named refused;
  is = refl;
  tells = refl;
})

-- a text spells a design with a component
no_comps : (names : List Text) (comps : List CalComp) → map (component_tree names) comps ≢ [] → 0 < length comps
no_comps names [] some = absurd (some refl)
no_comps names (c ∷ comps) some = omega arith

pub some_comps : (d : CalDesign) → DesignIsWritten (design_of d) → 0 < length d.comps.items
some_comps d written = no_comps d.names d.comps.items written.0

-- why a design that keeps the rules costs too much stands against each text of it
pub unfit_where_overweight : {T : Type 0} (d e : CalDesign) (answer : Result T Stop) → e ≡ d → CalRules (design_of d) → IfErr answer (IsOverweightCal e) → IfErr answer (IsUnfitCal d)
unfit_where_overweight d e (Ok value) same kept heavy = tt
unfit_where_overweight d e (Err why) same kept heavy = λ text of. subst (λ (o : CalDesign). IsOverweightCal o why) same heavy text (record { text_of = of; rules = kept })

-- a design that weighs more than the limit is refused
pub heavy_refused : (d : CalDesign) (weight : ℕ) → IsWeight (design_of d) weight → MOST_WEIGHT < weight → (text : Text) → IsAcceptedCalTextOf (design_of d) text → IsRefused text Limit (limit_line (codes "weight") weight MOST_WEIGHT)
heavy_refused d weight weighs heavy text accepted =
    ByWeight (record { design = design_of d; weight = weight; accepted = accepted; weighs = weighs; heavy = heavy; is = refl; tells = refl })

-- and one whose memories have more words than the limit
pub wordy_refused : (d : CalDesign) (words : ℕ) → IsLight (design_of d) → AreWords (design_of d) words → MOST_WORDS < words → (text : Text) → IsAcceptedCalTextOf (design_of d) text → IsRefused text Limit (limit_line (codes "words") words MOST_WORDS)
wordy_refused d words light has many text accepted =
    ByWords (record { design = design_of d; words = words; accepted = accepted; light = light; has = has; many = many; is = refl; tells = refl })
