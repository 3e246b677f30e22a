-- A Filament text gives a design or is refused, not both.
use Rattle.std.proofs.Common.{◌≡◌, ℕ, zero, suc, get_or, codes, ◌∷◌, ◌<◌, ◌≤◌, List, [], length, take, None, Some, refl, sym, ap, subst, ◌∙◌, arith}
use Rattle.std.specs.Prelude.{slice_get, Result, Ok, Err, IfErr}
use Rattle.hw_names.specs.Name.{Text, text_of}
use Rattle.hw_names.specs.declared.names.NameId.{NameId}
use Rattle.hw_lex.specs.declared.token.Dialect.TheVariants.{Fil}
use Rattle.hw_lex.specs.declared.token.Token.{Token}
use Rattle.hw_lex.specs.Cut.{FaultsAt, token_texts}
use Rattle.hw_lex.specs.Nesting.{nesting_of}
use Rattle.hw_lex.proofs.Cuts.{tokens_unique, tokens-no_fault}
use Rattle.hw_grammar.specs.declared.terminal.Terminal.{Terminal}
use Rattle.hw_grammar.proofs.Alike.{IsAlike, lexed_alike}
use Rattle.hw_grammar.proofs.Passing.{ArePairs}
use Rattle.fil_ast.specs.Evidence.{Evidence}
use Rattle.fil_ast.specs.Refusal.{IsRefusal}
use Rattle.fil_ast.specs.Refusal as refusal
use Rattle.fil_ast.specs.Rules.{Keeps, FilRules, all_rules}
use Rattle.fil_ast.specs.Top.{IsTop}
use Rattle.fil_ast.specs.Tree.{Component, Design, design_of}
use Rattle.fil_ast.specs.Weight.{told_weight}
use Rattle.fil_ast.specs.declared.tree.FilDesign.{FilDesign}
use Rattle.fil_parse.specs.Grammar.{IsFile}
use Rattle.fil_parse.specs.Spelling.{SpellsDesign, IsNested, IsRefusedAt, first_large}
use Rattle.fil_parse.proofs.Designs.{one_tree}
use Rattle.fil_parse.proofs.Passages.{passes-file}
use Rattle.fil_parse.specs.Written.{IsFilName, ComponentIsWritten, DesignIsWritten}
use Rattle.fil_ast.specs.Numbers.{IsNumberOf}
use Rattle.filc_load.proofs.ListLemmas.{all_at, each_at}
use Rattle.filc_load.proofs.TopLemmas.{has_top, one_top}
use Rattle.filc_load.specs.Built.{IsUnfitDesign, IsOverweightDesign}
use Rattle.filc_stop.specs.Lines.{limit_line, evidence_text, rule_name, rule_line}
use Rattle.filc_load.specs.FilFile.{GivesFil, HasTop, IsLight, IsFilTextOf, IsAcceptedFilTextOf, IsRefused, HasNoTokens, NestsTooDeep, HasNoGrammar, HasLargeOffset, BreaksRule, IsTooHeavy}
use Rattle.filc_stop.specs.declared.ended.Ended.{Ended}
use Rattle.filc_stop.specs.declared.ended.Ended.TheVariants.{Refused, Limit}
use Rattle.filc_stop.specs.declared.language.Language.TheVariants.{Filament}
use Rattle.hw_limits.specs.declared.limits.TheConstants.{MOST_WEIGHT}
use Rattle.filc_stop.specs.declared.stop.Stop.{Stop}

no_more : (R : Terminal → Terminal → Type 0) (others : List Terminal) → ArePairs R [] others → others ≡ []
no_more R [] p = refl
no_more R (u ∷ others) p = absurd p

-- a text that spells a design isn't refused by the grammar, whatever the numbers of names are there
spelled_not_refused : (text : Text) (design : Design) (at : ℕ) → SpellsDesign text design → IsRefusedAt text at → ⊥
spelled_not_refused text design at (old, (tokens, ts, lexed, spells)) (new, (others, us, lexed', k, place, is)) =
    let passed = passes-file old new ts us design [] (lexed_alike Fil old new text tokens others ts us lexed lexed') spells in
    place.2 design (subst (λ (x : List Terminal). IsFile new us design x) (no_more (IsAlike Fil old new) passed.1.0 passed.1.1) passed.1.2)

-- a text that spells a design has tokens
spelled_no_fault : (text : Text) (design : Design) (at : ℕ) → SpellsDesign text design → FaultsAt Fil text at → ⊥
spelled_no_fault text design at (names, (tokens, ts, lexed, spells)) fault = tokens-no_fault Fil text tokens at lexed.tokens_are fault

-- brackets are one deep
pub same_nesting : (text : Text) (a b : ℕ) → IsNested text a → IsNested text b → a ≡ b
same_nesting text a b (tokens, are, is) (others, are', is') =
    is ∙ ap (λ (ts : List Token). nesting_of (token_texts text ts)) (tokens_unique Fil text tokens others are are') ∙ sym is'

-- a design that keeps the rules is not refused by one
kept_not_refused : (design : Design) (rule : ℕ) (name : Text) (item : ℕ) (evidence : Evidence) → FilRules design → IsRefusal design name item evidence rule → ⊥
kept_not_refused design _ name item evidence kept (refusal.BreaksRule n place first named shows) =
    first.broken (all_at (Keeps (take n design) first.c first.item) all_rules place first.rule (kept.keeps n first.c first.at item first.item first.here) first.numbered)
kept_not_refused design _ name item evidence kept (refusal.HasLoop n port others loop named here told) =
    kept.no_loop n loop.c loop.at port others loop.loop.is_loop

pub given_fil_not_refused : (text : Text) (design : Design) (ended : Ended) (line : Text) → GivesFil text design → IsRefused text ended line → ⊥
given_fil_not_refused text design ended line gives (HasNoTokens at fault is tells) = spelled_no_fault text design at gives.accepted.text_of.spells fault
given_fil_not_refused text design ended line gives (NestsTooDeep depth nested deep is tells) =
    let shallow = gives.accepted.text_of.shallow in
    omega (arith, deep, shallow.2, same_nesting text depth shallow.0 nested shallow.1)
given_fil_not_refused text design ended line gives (HasNoGrammar at shallow refused is tells) = spelled_not_refused text design at gives.accepted.text_of.spells refused
given_fil_not_refused text design ended line gives (HasLargeOffset other offset shallow spells large is tells) =
    let none : None ≡ Some offset = sym gives.accepted.text_of.small ∙ ap first_large (one_tree text design other gives.accepted.text_of.spells spells) ∙ large in cc none
given_fil_not_refused text design ended line gives (BreaksRule other rule name item evidence of refused is tells) =
    kept_not_refused other rule name item evidence (subst FilRules (one_tree text design other gives.accepted.text_of.spells of.spells) gives.accepted.rules) refused
given_fil_not_refused text design ended line gives (IsTooHeavy other number top of has heavy is tells) =
    let same = one_tree text other design of.text_of.spells gives.accepted.text_of.spells in
    let over : MOST_WEIGHT < told_weight design top = subst (λ (d : Design). MOST_WEIGHT < told_weight d top) same heavy in
    let one = one_top design number gives.light.number top gives.light.top (subst (λ (d : Design). HasTop d number top) same has) gives.light.has_top in
    let over' : MOST_WEIGHT < told_weight design gives.light.top = subst (λ (c : Component). MOST_WEIGHT < told_weight design c) one over in
    omega (arith, over', gives.light.light)

-- ---- the refusal of a design

-- a name of the grammar has a number
number_in : (names : List Text) (k : ℕ) → IsFilName (get_or names k []) → k < length names
number_in [] k named = absurd named.0
number_in (x ∷ names) zero named = omega arith
number_in (x ∷ names) (suc k) named = let rest = number_in names k named in omega arith

-- the name of a component of such a design is one of its names
component_number : (d : FilDesign) (comp : NameId) (n : ℕ) (c : Component) → DesignIsWritten (design_of d) → slice_get (design_of d) n ≡ Some c → c.name ≡ text_of d.names comp → IsNumberOf d.names comp
component_number d comp n c written at named =
    let of_component = each_at ComponentIsWritten (design_of d) n c written.1 at in
    number_in d.names comp.0 (subst IsFilName named of_component.name)

pub refusal_number : (d : FilDesign) (rule : ℕ) (comp : NameId) (item : ℕ) (evidence : Evidence) → DesignIsWritten (design_of d) → IsRefusal (design_of d) (text_of d.names comp) item evidence rule → IsNumberOf d.names comp
refusal_number d _ comp item evidence written (refusal.BreaksRule n place first named shows) = component_number d comp n first.c written first.at named
refusal_number d _ comp item evidence written (refusal.HasLoop n port others loop named here told) = component_number d comp n loop.c written loop.at named

-- the first broken rule is told
pub design_refused : (d : FilDesign) (rule : ℕ) (comp : NameId) (item : ℕ) (evidence : Evidence) (name : Text) → IsRefusal (design_of d) (text_of d.names comp) item evidence rule → text_of d.names comp ≡ name → (text : Text) → IsFilTextOf (design_of d) text → IsRefused text Refused (rule_line (rule_name Filament rule) name item (evidence_text evidence))
design_refused d rule comp item evidence name refused named text of =
    BreaksRule (design_of d) rule name item evidence of (subst (λ (t : Text). IsRefusal (design_of d) t item evidence rule) named refused) refl refl

-- why a design that keeps the rules is too heavy stands against each text of it
pub unfit_where_heavy : {T : Type 0} (d e : FilDesign) (answer : Result T Stop) → e ≡ d → FilRules (design_of d) → IfErr answer (IsOverweightDesign e) → IfErr answer (IsUnfitDesign d)
unfit_where_heavy d e (Ok value) same kept heavy = tt
unfit_where_heavy d e (Err why) same kept heavy = λ text of. subst (λ (o : FilDesign). IsOverweightDesign o why) same heavy text (record { text_of = of; rules = kept })

-- a design whose top component weighs no more than the limit
pub light_top : (design : Design) (n weight : ℕ) → IsTop design n → ((c : Component) → slice_get design n ≡ Some c → weight ≡ told_weight design c) → weight ≤ MOST_WEIGHT → IsLight design
light_top design n weight is weighs few =
    let top = has_top design n is in
    record { number = n; top = top.0; has_top = top.1; light = omega (arith, few, weighs top.0 top.1.at) }

-- a design whose top component weighs more is refused
pub heavy_refused : (d : FilDesign) (n weight : ℕ) → IsTop (design_of d) n → ((c : Component) → slice_get (design_of d) n ≡ Some c → weight ≡ told_weight (design_of d) c) → MOST_WEIGHT < weight → (text : Text) → IsAcceptedFilTextOf (design_of d) text → IsRefused text Limit (limit_line (codes "weight") weight MOST_WEIGHT)
heavy_refused d n weight is weighs many text accepted =
    let top = has_top (design_of d) n is in
    let weighed = weighs top.0 top.1.at in
    IsTooHeavy (design_of d) n top.0 accepted top.1 (omega (arith, many, weighed)) refl (ap (λ (count : ℕ). limit_line (codes "weight") count MOST_WEIGHT) weighed)
