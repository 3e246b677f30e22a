-- The text of a Filament file gives one design, or is refused with one answer and one line, but for which loop that tells: each cause
-- stands where those before it are not met.
use Rattle.std.proofs.Common.{◌≡◌, ℕ, ◌<◌, ◌⊎◌, inl, inr, codes, Some, None, refl, sym, ap, subst, ◌∙◌, arith}
use Rattle.std.specs.Prelude.{slice_get}
use Rattle.std.proofs.lemmas.Option.{same_Some}
use Rattle.hw_lex.proofs.Cuts.{tokens-no_fault, fault_unique}
use Rattle.hw_lex.specs.Cut.{FaultsAt}
use Rattle.hw_lex.specs.declared.token.Dialect.TheVariants.{Fil}
use Rattle.hw_names.specs.Name.{Text}
use Rattle.fil_ast.specs.Evidence.{Evidence, ALoop}
use Rattle.fil_ast.specs.Refusal.{IsRefusal}
use Rattle.fil_ast.specs.Rules.{FilRules}
use Rattle.fil_ast.specs.Tree.{Component, Design}
use Rattle.fil_ast.specs.Weight.{told_weight}
use Rattle.hw_limits.specs.declared.limits.TheConstants.{MOST_WEIGHT, MOST_NESTING, MOST_OFFSET}
use Rattle.fil_parse.proofs.Designs.{one_tree}
use Rattle.fil_parse.specs.Spelling.{SpellsDesign, IsNested, KeepsNesting, IsRefusedAt, first_large}
use Rattle.filc_load.proofs.FilLemmas.{same_nesting}
use Rattle.filc_load.proofs.TopLemmas.{one_number}
use Rattle.filc_load.specs.FilFile.{HasTop, GivesFil, IsRefused, HasNoTokens, NestsTooDeep, HasNoGrammar, HasLargeOffset, BreaksRule, IsTooHeavy}
use Rattle.filc_stop.specs.Lines.{limit_line, token_line, grammar_line, evidence_text, rule_name, rule_line}
use Rattle.filc_stop.specs.declared.ended.Ended.{Ended}
use Rattle.filc_stop.specs.declared.ended.Ended.TheVariants.{Refused, Limit}
use Rattle.filc_stop.specs.declared.language.Language.TheVariants.{Filament}
use Rattle.filc_laws.proofs.FilPlaceLemmas.{fil_place_is_one, refused_fil_spells_none}
use Rattle.filc_laws.proofs.FilRuleLemmas.{fil_refusal_is_one, refused_design_breaks_rules}
use Rattle.filc_laws.proofs.LineLemmas.{IsOne, one_of, one_broken}
use Rattle.filc_laws.specs.OneRule.{Broken}

-- ---- what a text has one of

too_deep : (text : Text) (depth : ℕ) → IsNested text depth → MOST_NESTING < depth → KeepsNesting text → ⊥
too_deep text depth nested over (other, nested', within) = let same = same_nesting text depth other nested nested' in omega (arith, over, within, same)

-- ---- the causes, each beside those before it

abbrev ByRule : Design → Ended → Text → Type 0
ByRule d ended line =
    ((rule : ℕ) × (name : Text) × (item : ℕ) × (evidence : Evidence) × IsRefusal d name item evidence rule × (ended ≡ Refused) × (line ≡ rule_line (rule_name Filament rule) name item (evidence_text evidence)))
    ⊎ (FilRules d × ((number : ℕ) × (top : Component) × HasTop d number top × (ended ≡ Limit) × (line ≡ limit_line (codes "weight") (told_weight d top) MOST_WEIGHT)))

abbrev ByOffset : Design → Ended → Text → Type 0
ByOffset d ended line =
    ((offset : ℕ) × (first_large d ≡ Some offset) × (ended ≡ Limit) × (line ≡ limit_line (codes "offset") offset MOST_OFFSET)) ⊎ ((first_large d ≡ None) × ByRule d ended line)

abbrev ByGrammar : Text → Ended → Text → Type 0
ByGrammar text ended line =
    ((at : ℕ) × IsRefusedAt text at × (ended ≡ Refused) × (line ≡ grammar_line at)) ⊎ ((d : Design) × SpellsDesign text d × ByOffset d ended line)

abbrev ByNesting : Text → Ended → Text → Type 0
ByNesting text ended line =
    ((depth : ℕ) × IsNested text depth × (MOST_NESTING < depth) × (ended ≡ Limit) × (line ≡ limit_line (codes "nesting") depth MOST_NESTING))
    ⊎ (KeepsNesting text × ByGrammar text ended line)

abbrev ByTokens : Text → Ended → Text → Type 0
ByTokens text ended line = ((at : ℕ) × FaultsAt Fil text at × (ended ≡ Refused) × (line ≡ token_line at)) ⊎ ByNesting text ended line

in_order : (text : Text) (ended : Ended) (line : Text) → IsRefused text ended line → ByTokens text ended line
in_order text ended line (HasNoTokens at faults e l) = inl (at, faults, e, l)
in_order text ended line (NestsTooDeep depth nested over e l) = inr (inl (depth, nested, over, e, l))
in_order text ended line (HasNoGrammar at shallow refused e l) = inr (inr (shallow, inl (at, refused, e, l)))
in_order text ended line (HasLargeOffset d offset shallow spells large e l) = inr (inr (shallow, inr (d, spells, inl (offset, large, e, l))))
in_order text ended line (BreaksRule d rule name item evidence of broken e l) =
    inr (inr (of.shallow, inr (d, of.spells, inr (of.small, inl (rule, name, item, evidence, broken, e, l)))))
in_order text ended line (IsTooHeavy d number top accepted has heavy e l) =
    inr (inr (accepted.text_of.shallow, inr (d, accepted.text_of.spells, inr (accepted.text_of.small, inr (accepted.rules, (number, top, has, e, l))))))

-- ---- each is one

abbrev broken_of : ℕ → Text → ℕ → Evidence → Broken Evidence
broken_of rule name item evidence = record { rule = rule; name = name; item = item; shows = evidence }

by_rule : (d : Design) (ended ended' : Ended) (line line' : Text) → ByRule d ended line → ByRule d ended' line' → IsOne ended ended' line line'
by_rule d ended ended' line line' (inl (rule, name, item, evidence, broken, e, l)) (inl (rule', name', item', evidence', broken', e', l')) =
    let b = broken_of rule name item evidence in
    let b' = broken_of rule' name' item' evidence' in
    one_broken Filament evidence_text ALoop (λ ports. refl) ended ended' line line' b b' e e' l l' (fil_refusal_is_one d b b' broken broken')
by_rule d ended ended' line line' (inl (rule, name, item, evidence, broken, e, l)) (inr (rules, more)) = absurd (refused_design_breaks_rules d (broken_of rule name item evidence) broken rules)
by_rule d ended ended' line line' (inr (rules, more)) (inl (rule, name, item, evidence, broken, e, l)) = absurd (refused_design_breaks_rules d (broken_of rule name item evidence) broken rules)
by_rule d ended ended' line line' (inr (rules, (number, top, has, e, l))) (inr (rules', (number', top', has', e', l'))) =
    let number_is = one_number d number number' has.is_top has'.is_top in
    let top_is : top ≡ top' = same_Some top top' (sym has.at ∙ ap (slice_get d) number_is ∙ has'.at) in
    one_of Limit ended ended' line line' _ _ e e' l l' (ap (λ (c : Component). limit_line (codes "weight") (told_weight d c) MOST_WEIGHT) top_is)

no_large : (d : Design) (offset : ℕ) → first_large d ≡ Some offset → first_large d ≡ None → ⊥
no_large d offset large small = let clash : Some offset ≡ None = sym large ∙ small in cc

by_offset : (d : Design) (ended ended' : Ended) (line line' : Text) → ByOffset d ended line → ByOffset d ended' line' → IsOne ended ended' line line'
by_offset d ended ended' line line' (inl (offset, large, e, l)) (inl (offset', large', e', l')) =
    one_of Limit ended ended' line line' _ _ e e' l l' (ap (λ (k : ℕ). limit_line (codes "offset") k MOST_OFFSET) (same_Some offset offset' (sym large ∙ large')))
by_offset d ended ended' line line' (inl (offset, large, e, l)) (inr (small, more)) = absurd (no_large d offset large small)
by_offset d ended ended' line line' (inr (small, more)) (inl (offset, large, e, l)) = absurd (no_large d offset large small)
by_offset d ended ended' line line' (inr (small, more)) (inr (small', more')) = by_rule d ended ended' line line' more more'

by_grammar : (text : Text) (ended ended' : Ended) (line line' : Text) → ByGrammar text ended line → ByGrammar text ended' line' → IsOne ended ended' line line'
by_grammar text ended ended' line line' (inl (at, refused, e, l)) (inl (at', refused', e', l')) =
    one_of Refused ended ended' line line' _ _ e e' l l' (ap grammar_line (fil_place_is_one text at at' refused refused'))
by_grammar text ended ended' line line' (inl (at, refused, e, l)) (inr (d, spells, more)) = absurd (refused_fil_spells_none text at d refused spells)
by_grammar text ended ended' line line' (inr (d, spells, more)) (inl (at, refused, e, l)) = absurd (refused_fil_spells_none text at d refused spells)
by_grammar text ended ended' line line' (inr (d, spells, more)) (inr (d', spells', more')) =
    by_offset d ended ended' line line' more (subst (λ (x : Design). ByOffset x ended' line') (one_tree text d' d spells' spells) more')

by_nesting : (text : Text) (ended ended' : Ended) (line line' : Text) → ByNesting text ended line → ByNesting text ended' line' → IsOne ended ended' line line'
by_nesting text ended ended' line line' (inl (depth, nested, over, e, l)) (inl (depth', nested', over', e', l')) =
    one_of Limit ended ended' line line' _ _ e e' l l' (ap (λ (k : ℕ). limit_line (codes "nesting") k MOST_NESTING) (same_nesting text depth depth' nested nested'))
by_nesting text ended ended' line line' (inl (depth, nested, over, e, l)) (inr (shallow, more)) = absurd (too_deep text depth nested over shallow)
by_nesting text ended ended' line line' (inr (shallow, more)) (inl (depth, nested, over, e, l)) = absurd (too_deep text depth nested over shallow)
by_nesting text ended ended' line line' (inr (shallow, more)) (inr (shallow', more')) = by_grammar text ended ended' line line' more more'

-- what is nested has tokens
has_tokens : (text : Text) (ended : Ended) (line : Text) (at : ℕ) → FaultsAt Fil text at → ByNesting text ended line → ⊥
has_tokens text ended line at faults (inl (depth, (tokens, are, is), over, e, l)) = tokens-no_fault Fil text tokens at are faults
has_tokens text ended line at faults (inr ((depth, (tokens, are, is), within), more)) = tokens-no_fault Fil text tokens at are faults

by_tokens : (text : Text) (ended ended' : Ended) (line line' : Text) → ByTokens text ended line → ByTokens text ended' line' → IsOne ended ended' line line'
by_tokens text ended ended' line line' (inl (at, faults, e, l)) (inl (at', faults', e', l')) =
    one_of Refused ended ended' line line' _ _ e e' l l' (ap token_line (fault_unique Fil text at at' faults faults'))
by_tokens text ended ended' line line' (inl (at, faults, e, l)) (inr more) = absurd (has_tokens text ended' line' at faults more)
by_tokens text ended ended' line line' (inr more) (inl (at, faults, e, l)) = absurd (has_tokens text ended line at faults more)
by_tokens text ended ended' line line' (inr more) (inr more') = by_nesting text ended ended' line line' more more'

pub fil_refused_once : (text : Text) (ended ended' : Ended) (line line' : Text) → IsRefused text ended line → IsRefused text ended' line' → IsOne ended ended' line line'
fil_refused_once text ended ended' line line' p q = by_tokens text ended ended' line line' (in_order text ended line p) (in_order text ended' line' q)

-- ---- what is refused gives nothing

pub fil_given_once : (text : Text) (d e : Design) → GivesFil text d → GivesFil text e → d ≡ e
fil_given_once text d e p q = one_tree text d e p.accepted.text_of.spells q.accepted.text_of.spells

module _ (text : Text) (d : Design) (g : GivesFil text d) where
  same_as : (e : Design) → SpellsDesign text e → e ≡ d
  same_as e spells = one_tree text e d spells g.accepted.text_of.spells

  pub fil_not_both : (ended : Ended) (line : Text) → IsRefused text ended line → ⊥
  fil_not_both ended line (HasNoTokens at faults e l) = let shallow = g.accepted.text_of.shallow in tokens-no_fault Fil text shallow.1.0 at shallow.1.1 faults
  fil_not_both ended line (NestsTooDeep depth nested over e l) = too_deep text depth nested over g.accepted.text_of.shallow
  fil_not_both ended line (HasNoGrammar at shallow refused e l) = refused_fil_spells_none text at d refused g.accepted.text_of.spells
  fil_not_both ended line (HasLargeOffset b offset shallow spells large e l) =
      no_large d offset (subst (λ (x : Design). first_large x ≡ Some offset) (same_as b spells) large) g.accepted.text_of.small
  fil_not_both ended line (BreaksRule b rule name item evidence of broken e l) =
      refused_design_breaks_rules d (broken_of rule name item evidence) (subst (λ (x : Design). IsRefusal x name item evidence rule) (same_as b of.spells) broken) g.accepted.rules
  fil_not_both ended line (IsTooHeavy b number top accepted has heavy e l) =
      let same = same_as b accepted.text_of.spells in
      let there : HasTop d number top = subst (λ (x : Design). HasTop x number top) same has in
      let over : MOST_WEIGHT < told_weight d top = subst (λ (x : Design). MOST_WEIGHT < told_weight x top) same heavy in
      let number_is = one_number d number g.light.number there.is_top g.light.has_top.is_top in
      let top_is : top ≡ g.light.top = same_Some top g.light.top (sym there.at ∙ ap (slice_get d) number_is ∙ g.light.has_top.at) in
      let weight = ap (told_weight d) top_is in
      let light = g.light.light in
      omega (arith, over, weight, light)
