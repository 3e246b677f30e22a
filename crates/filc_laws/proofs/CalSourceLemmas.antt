-- The text of a Calyx file gives one design, or is refused with one answer and one line, but for which loop that tells: each cause
-- stands where those before it are not met.
use Rattle.std.proofs.Common.{◌≡◌, ℕ, zero, suc, ◌<◌, ◌⊎◌, inl, inr, true, false, List, ◌++◌, codes, drop, Some, refl, sym, ap, subst, ◌∙◌, arith}
use Rattle.std.specs.Prelude.{slice_get}
use Rattle.std.proofs.lemmas.Option.{same_Some, slice_get-get_or}
use Rattle.hw_lex.proofs.Cuts.{tokens-no_fault, fault_unique}
use Rattle.hw_lex.proofs.Fronts.{clash}
use Rattle.hw_lex.specs.Cut.{FaultsAt}
use Rattle.hw_lex.specs.declared.token.Dialect.TheVariants.{Cal}
use Rattle.hw_names.specs.Name.{Text}
use Rattle.cal_ast.specs.Rules.{CalRules}
use Rattle.cal_ast.specs.Tree.{Design}
use Rattle.cal_check.specs.Weight.{IsWeight, AreWords}
use Rattle.cal_parse.proofs.Designs.{one_tree}
use Rattle.cal_parse.specs.Spelling.{SpellsDesign, IsNested, KeepsNesting, IsRefusedAt, is_left_out}
use Rattle.hw_limits.specs.declared.limits.TheConstants.{MOST_WEIGHT, MOST_WORDS, MOST_NESTING}
use Rattle.filc_load.proofs.CalLemmas.{same_nesting}
use Rattle.filc_load.specs.CalFile as causes
use Rattle.filc_load.specs.CalFile.{GivesCal, IsRefused, IsLight, LeavesOutAt, left_out_words, first_word}
use Rattle.filc_stop.specs.Lines.{limit_line, token_line, grammar_line, left_out_line, loop_text}
use Rattle.filc_stop.specs.declared.ended.Ended.{Ended}
use Rattle.filc_stop.specs.declared.ended.Ended.TheVariants.{Refused, Limit}
use Rattle.filc_stop.specs.declared.language.Language.TheVariants.{Calyx}
use Rattle.filc_laws.proofs.CalCostLemmas.{cal_weight_is_one, cal_words_are_one}
use Rattle.filc_laws.proofs.CalPlaceLemmas.{cal_place_is_one, refused_cal_spells_none}
use Rattle.filc_laws.proofs.CalRuleLemmas.{cal_refusal_is_one, refused_cal_breaks_rules}
use Rattle.filc_laws.proofs.LineLemmas.{IsOne, line_of, one_of, one_broken}
use Rattle.filc_laws.specs.OneRule.{Broken, RefusesCal}

-- ---- what a text has one of

too_deep : (text : Text) (depth : ℕ) → IsNested text depth → MOST_NESTING < depth → KeepsNesting text → ⊥
too_deep text depth nested over (other, nested', within) = let same = same_nesting text depth other nested nested' in omega (arith, over, within, same)

-- of the words that are left out none begins another
word_first : (k : ℕ) (word after : Text) → slice_get left_out_words k ≡ Some word → first_word left_out_words (word ++ after) ≡ Some word
word_first zero word after at = subst (λ (w : Text). first_word left_out_words (w ++ after) ≡ Some w) (same_Some (codes "static") word at) refl
word_first (suc zero) word after at = subst (λ (w : Text). first_word left_out_words (w ++ after) ≡ Some w) (same_Some (codes "ref") word at) refl
word_first (suc (suc zero)) word after at = subst (λ (w : Text). first_word left_out_words (w ++ after) ≡ Some w) (same_Some (codes "repeat") word at) refl
word_first (suc (suc (suc zero))) word after at = subst (λ (w : Text). first_word left_out_words (w ++ after) ≡ Some w) (same_Some (codes "primitive") word at) refl
word_first (suc (suc (suc (suc zero)))) word after at = subst (λ (w : Text). first_word left_out_words (w ++ after) ≡ Some w) (same_Some (codes "extern") word at) refl
word_first (suc (suc (suc (suc (suc zero))))) word after at = subst (λ (w : Text). first_word left_out_words (w ++ after) ≡ Some w) (same_Some (codes "metadata") word at) refl
word_first (suc (suc (suc (suc (suc (suc k)))))) word after at = absurd cc

word_stands : (text : Text) (at : ℕ) (word : Text) → LeavesOutAt text at word → first_word left_out_words (drop at text) ≡ Some word
word_stands text at word p =
    let known = p.known in
    ap (first_word left_out_words) p.stands ∙ word_first known.0 word p.after (slice_get-get_or left_out_words known.0 word known.1 ∙ ap Some known.2)

-- so at a byte one of them stands
word_once : (text : Text) (at : ℕ) (word word' : Text) → LeavesOutAt text at word → LeavesOutAt text at word' → word ≡ word'
word_once text at word word' p q = same_Some word word' (sym (word_stands text at word p) ∙ word_stands text at word' q)

-- ---- the causes, each beside those before it

abbrev ByCost : Design → Ended → Text → Type 0
ByCost d ended line =
    ((weight : ℕ) × IsWeight d weight × (MOST_WEIGHT < weight) × (ended ≡ Limit) × (line ≡ limit_line (codes "weight") weight MOST_WEIGHT))
    ⊎ (IsLight d × ((words : ℕ) × AreWords d words × (ended ≡ Limit) × (line ≡ limit_line (codes "words") words MOST_WORDS)))

abbrev ByRule : Design → Ended → Text → Type 0
ByRule d ended line = ((b : Broken (List Text)) × RefusesCal d b × (ended ≡ Refused) × (line ≡ line_of Calyx loop_text b)) ⊎ (CalRules d × ByCost d ended line)

-- at a byte that the grammar refuses: whether a word that is left out stands there
abbrev AtByte : (text : Text) (at : ℕ) → IsRefusedAt text at → Text → Type 0
AtByte text at refusal line =
    ((is_left_out refusal ≡ false) × (line ≡ grammar_line at))
    ⊎ ((is_left_out refusal ≡ true) × ((word : Text) × LeavesOutAt text at word × (line ≡ left_out_line word at)))

abbrev ByGrammar : Text → Ended → Text → Type 0
ByGrammar text ended line =
    ((at : ℕ) × (refusal : IsRefusedAt text at) × (ended ≡ Refused) × AtByte text at refusal line) ⊎ ((d : Design) × SpellsDesign text d × ByRule d ended line)

abbrev ByNesting : Text → Ended → Text → Type 0
ByNesting text ended line =
    ((depth : ℕ) × IsNested text depth × (MOST_NESTING < depth) × (ended ≡ Limit) × (line ≡ limit_line (codes "nesting") depth MOST_NESTING))
    ⊎ (KeepsNesting text × ByGrammar text ended line)

abbrev ByTokens : Text → Ended → Text → Type 0
ByTokens text ended line = ((at : ℕ) × FaultsAt Cal text at × (ended ≡ Refused) × (line ≡ token_line at)) ⊎ ByNesting text ended line

in_order : (text : Text) (ended : Ended) (line : Text) → IsRefused text ended line → ByTokens text ended line
in_order text ended line (causes.ByTokens c) = inl (c.at, c.faults, c.is, c.tells)
in_order text ended line (causes.ByNesting c) = inr (inl (c.depth, c.nested, c.deep, c.is, c.tells))
in_order text ended line (causes.ByGrammar c) = inr (inr (c.shallow, inl (c.at, c.refusal, c.is, inl (c.of_profile, c.tells))))
in_order text ended line (causes.ByWord c) = inr (inr (c.shallow, inl (c.at, c.refusal, c.is, inr (c.left_out, (c.word, c.stands, c.tells)))))
in_order text ended line (causes.ByRule c) =
    let b : Broken (List Text) = record { rule = c.rule; name = c.name; item = c.item; shows = c.ports } in
    inr (inr (c.text_of.shallow, inr (c.design, c.text_of.spells, inl (b, c.first, c.is, c.tells))))
in_order text ended line (causes.ByWeight c) =
    inr (inr (c.accepted.text_of.shallow, inr (c.design, c.accepted.text_of.spells, inr (c.accepted.rules, inl (c.weight, c.weighs, c.heavy, c.is, c.tells)))))
in_order text ended line (causes.ByWords c) =
    inr (inr (c.accepted.text_of.shallow, inr (c.design, c.accepted.text_of.spells, inr (c.accepted.rules, inr (c.light, (c.words, c.has, c.is, c.tells))))))

-- ---- each is one

light_or_heavy : (d : Design) (weight : ℕ) → IsWeight d weight → MOST_WEIGHT < weight → IsLight d → ⊥
light_or_heavy d weight weighs heavy light =
    let same = cal_weight_is_one d weight light.weight weighs light.weighs in let few = light.light in omega (arith, heavy, few, same)

by_cost : (d : Design) (ended ended' : Ended) (line line' : Text) → ByCost d ended line → ByCost d ended' line' → IsOne ended ended' line line'
by_cost d ended ended' line line' (inl (weight, weighs, heavy, e, l)) (inl (weight', weighs', heavy', e', l')) =
    one_of Limit ended ended' line line' _ _ e e' l l' (ap (λ (k : ℕ). limit_line (codes "weight") k MOST_WEIGHT) (cal_weight_is_one d weight weight' weighs weighs'))
by_cost d ended ended' line line' (inl (weight, weighs, heavy, e, l)) (inr (light, more)) = absurd (light_or_heavy d weight weighs heavy light)
by_cost d ended ended' line line' (inr (light, more)) (inl (weight, weighs, heavy, e, l)) = absurd (light_or_heavy d weight weighs heavy light)
by_cost d ended ended' line line' (inr (light, (words, has, e, l))) (inr (light', (words', has', e', l'))) =
    one_of Limit ended ended' line line' _ _ e e' l l' (ap (λ (k : ℕ). limit_line (codes "words") k MOST_WORDS) (cal_words_are_one d words words' has has'))

by_rule : (d : Design) (ended ended' : Ended) (line line' : Text) → ByRule d ended line → ByRule d ended' line' → IsOne ended ended' line line'
by_rule d ended ended' line line' (inl (b, refuses, e, l)) (inl (b', refuses', e', l')) =
    one_broken Calyx loop_text (λ ports. ports) (λ ports. refl) ended ended' line line' b b' e e' l l' (cal_refusal_is_one d b b' refuses refuses')
by_rule d ended ended' line line' (inl (b, refuses, e, l)) (inr (rules, more)) = absurd (refused_cal_breaks_rules d b refuses rules)
by_rule d ended ended' line line' (inr (rules, more)) (inl (b, refuses, e, l)) = absurd (refused_cal_breaks_rules d b refuses rules)
by_rule d ended ended' line line' (inr (rules, more)) (inr (rules', more')) = by_cost d ended ended' line line' more more'

-- two tellings of one byte
byte_once : (text : Text) (at : ℕ) (p q : IsRefusedAt text at) (line line' : Text) → is_left_out p ≡ is_left_out q → AtByte text at p line → AtByte text at q line' → line ≡ line'
byte_once text at p q line line' same (inl (none, l)) (inl (none', l')) = l ∙ sym l'
byte_once text at p q line line' same (inl (none, l)) (inr (left, more)) = absurd (clash left (sym same ∙ none))
byte_once text at p q line line' same (inr (left, more)) (inl (none, l)) = absurd (clash (sym same ∙ left) none)
byte_once text at p q line line' same (inr (left, (word, stands, l))) (inr (left', (word', stands', l'))) =
    l ∙ ap (λ (w : Text). left_out_line w at) (word_once text at word word' stands stands') ∙ sym l'

-- what is told of a byte is told of one that is the same
at_same : (text : Text) (at other : ℕ) (line : Text) → at ≡ other → (q : IsRefusedAt text other) → AtByte text other q line → (r : IsRefusedAt text at) × AtByte text at r line
at_same text at other line same q told = subst (λ (k : ℕ). (r : IsRefusedAt text k) × AtByte text k r line) (sym same) (q, told)

by_place : (text : Text) (at other : ℕ) (line line' : Text) (p : IsRefusedAt text at) (q : IsRefusedAt text other) → AtByte text at p line → AtByte text other q line' → line ≡ line'
by_place text at other line line' p q told told' =
    let there = at_same text at other line' (cal_place_is_one text at other p q).0 q told' in
    byte_once text at p there.0 line line' (cal_place_is_one text at at p there.0).1 told there.1

by_grammar : (text : Text) (ended ended' : Ended) (line line' : Text) → ByGrammar text ended line → ByGrammar text ended' line' → IsOne ended ended' line line'
by_grammar text ended ended' line line' (inl (at, p, e, told)) (inl (other, q, e', told')) =
    one_of Refused ended ended' line line' line line' e e' refl refl (by_place text at other line line' p q told told')
by_grammar text ended ended' line line' (inl (at, p, e, told)) (inr (d, spells, more)) = absurd (refused_cal_spells_none text at d p spells)
by_grammar text ended ended' line line' (inr (d, spells, more)) (inl (at, p, e, told)) = absurd (refused_cal_spells_none text at d p spells)
by_grammar text ended ended' line line' (inr (d, spells, more)) (inr (d', spells', more')) =
    by_rule d ended ended' line line' more (subst (λ (x : Design). ByRule x ended' line') (one_tree text d' d spells' spells) more')

by_nesting : (text : Text) (ended ended' : Ended) (line line' : Text) → ByNesting text ended line → ByNesting text ended' line' → IsOne ended ended' line line'
by_nesting text ended ended' line line' (inl (depth, nested, over, e, l)) (inl (depth', nested', over', e', l')) =
    one_of Limit ended ended' line line' _ _ e e' l l' (ap (λ (k : ℕ). limit_line (codes "nesting") k MOST_NESTING) (same_nesting text depth depth' nested nested'))
by_nesting text ended ended' line line' (inl (depth, nested, over, e, l)) (inr (shallow, more)) = absurd (too_deep text depth nested over shallow)
by_nesting text ended ended' line line' (inr (shallow, more)) (inl (depth, nested, over, e, l)) = absurd (too_deep text depth nested over shallow)
by_nesting text ended ended' line line' (inr (shallow, more)) (inr (shallow', more')) = by_grammar text ended ended' line line' more more'

-- what is nested has tokens
has_tokens : (text : Text) (ended : Ended) (line : Text) (at : ℕ) → FaultsAt Cal text at → ByNesting text ended line → ⊥
has_tokens text ended line at faults (inl (depth, (tokens, are, is), over, e, l)) = tokens-no_fault Cal text tokens at are faults
has_tokens text ended line at faults (inr ((depth, (tokens, are, is), within), more)) = tokens-no_fault Cal text tokens at are faults

by_tokens : (text : Text) (ended ended' : Ended) (line line' : Text) → ByTokens text ended line → ByTokens text ended' line' → IsOne ended ended' line line'
by_tokens text ended ended' line line' (inl (at, faults, e, l)) (inl (at', faults', e', l')) =
    one_of Refused ended ended' line line' _ _ e e' l l' (ap token_line (fault_unique Cal text at at' faults faults'))
by_tokens text ended ended' line line' (inl (at, faults, e, l)) (inr more) = absurd (has_tokens text ended' line' at faults more)
by_tokens text ended ended' line line' (inr more) (inl (at, faults, e, l)) = absurd (has_tokens text ended line at faults more)
by_tokens text ended ended' line line' (inr more) (inr more') = by_nesting text ended ended' line line' more more'

pub cal_refused_once : (text : Text) (ended ended' : Ended) (line line' : Text) → IsRefused text ended line → IsRefused text ended' line' → IsOne ended ended' line line'
cal_refused_once text ended ended' line line' p q = by_tokens text ended ended' line line' (in_order text ended line p) (in_order text ended' line' q)

-- ---- what is given

pub cal_given_once : (text : Text) (d e : Design) → GivesCal text d → GivesCal text e → d ≡ e
cal_given_once text d e p q = one_tree text d e p.accepted.text_of.spells q.accepted.text_of.spells
