-- The text of a netlist gives one netlist, or is refused with one answer and one line, but for which loop that tells: each cause stands
-- where those before it are not met.
use Rattle.std.proofs.Common.{◌≡◌, ℕ, ◌<◌, ◌≤◌, ◌⊎◌, inl, inr, List, [], ◌∷◌, codes, refl, ap, ap₂, subst, arith}
use Rattle.hw_names.specs.Name.{Text}
use Rattle.net_core.specs.Graph.{HasNoLoop, IsLeastLoop}
use Rattle.net_core.specs.Netlist.{Netlist}
use Rattle.net_core.specs.Rules.{IsValid, FirstBroken}
use Rattle.net_core.specs.Weight.{weight_of, saturated}
use Rattle.net_core.specs.Words.{word_total}
use Rattle.net_text.proofs.OneNetlist.{one_netlist}
use Rattle.net_text.specs.Reading.{Spells, IsRefusedAt}
use Rattle.filc_load.specs.NetFile.{GivesNet, IsRefused, NestsTooDeep, HasNoGrammar, BreaksRule, HasLoop, IsTooHeavy, HasTooManyWords, net_nesting}
use Rattle.filc_stop.specs.Lines.{limit_line, grammar_line, loop_text, rule_name, rule_line}
use Rattle.filc_stop.specs.declared.ended.Ended.{Ended}
use Rattle.filc_stop.specs.declared.ended.Ended.TheVariants.{Refused, Limit}
use Rattle.filc_stop.specs.declared.language.Language.TheVariants.{Netlists}
use Rattle.hw_limits.specs.declared.limits.TheConstants.{MOST_NET_NESTING, MOST_WEIGHT, MOST_WORDS}
use Rattle.filc_laws.proofs.LineLemmas.{IsOne, one_of, loop_of}
use Rattle.filc_laws.proofs.NetPlaceLemmas.{net_place_is_one}
use Rattle.filc_laws.proofs.NetRuleLemmas.{net_rule_is_one, broken_net_is_not_valid, least_port_is_one}

-- ---- the causes, each beside those before it

abbrev ByWeight : Netlist → Ended → Text → Type 0
ByWeight n ended line =
    ((MOST_WEIGHT < weight_of n) × (ended ≡ Limit) × (line ≡ limit_line (codes "weight") (saturated (weight_of n)) MOST_WEIGHT))
    ⊎ ((weight_of n ≤ MOST_WEIGHT) × (ended ≡ Limit) × (line ≡ limit_line (codes "words") (saturated (word_total n)) MOST_WORDS))

abbrev ByLoop : Netlist → Ended → Text → Type 0
ByLoop n ended line =
    ((first : Text) × (others : List Text) × IsLeastLoop n first others × (ended ≡ Refused) × (line ≡ rule_line (rule_name Netlists 6) n.name 0 (loop_text (first ∷ others))))
    ⊎ (HasNoLoop n × ByWeight n ended line)

abbrev ByRule : Netlist → Ended → Text → Type 0
ByRule n ended line =
    ((rule : ℕ) × (item : ℕ) × FirstBroken n rule item × (ended ≡ Refused) × (line ≡ rule_line (rule_name Netlists rule) n.name item []))
    ⊎ (IsValid n × ByLoop n ended line)

abbrev ByGrammar : Text → Ended → Text → Type 0
ByGrammar text ended line =
    ((at : ℕ) × IsRefusedAt text at × (ended ≡ Refused) × (line ≡ grammar_line at)) ⊎ ((n : Netlist) × Spells text n × ByRule n ended line)

abbrev ByNesting : Text → Ended → Text → Type 0
ByNesting text ended line =
    ((MOST_NET_NESTING < net_nesting text) × (ended ≡ Limit) × (line ≡ limit_line (codes "nesting") (net_nesting text) MOST_NET_NESTING))
    ⊎ ((net_nesting text ≤ MOST_NET_NESTING) × ByGrammar text ended line)

in_order : (text : Text) (ended : Ended) (line : Text) → IsRefused text ended line → ByNesting text ended line
in_order text ended line (NestsTooDeep over e l) = inl (over, e, l)
in_order text ended line (HasNoGrammar at shallow refused e l) = inr (shallow, inl (at, refused, e, l))
in_order text ended line (BreaksRule n rule item of broken e l) = inr (of.shallow, inr (n, of.spells, inl (rule, item, broken, e, l)))
in_order text ended line (HasLoop n first others of valid loop e l) = inr (of.shallow, inr (n, of.spells, inr (valid, inl (first, others, loop, e, l))))
in_order text ended line (IsTooHeavy n accepted heavy e l) =
    inr (accepted.text_of.shallow, inr (n, accepted.text_of.spells, inr (accepted.valid, inr (accepted.no_loop, inl (heavy, e, l)))))
in_order text ended line (HasTooManyWords n accepted light many e l) =
    inr (accepted.text_of.shallow, inr (n, accepted.text_of.spells, inr (accepted.valid, inr (accepted.no_loop, inr (light, e, l)))))

-- ---- each is one

by_weight : (n : Netlist) (ended ended' : Ended) (line line' : Text) → ByWeight n ended line → ByWeight n ended' line' → IsOne ended ended' line line'
by_weight n ended ended' line line' (inl (heavy, e, l)) (inl (heavy', e', l')) = one_of Limit ended ended' line line' _ _ e e' l l' refl
by_weight n ended ended' line line' (inl (heavy, e, l)) (inr (light, e', l')) = absurd (omega (arith, heavy, light))
by_weight n ended ended' line line' (inr (light, e, l)) (inl (heavy, e', l')) = absurd (omega (arith, heavy, light))
by_weight n ended ended' line line' (inr (light, e, l)) (inr (light', e', l')) = one_of Limit ended ended' line line' _ _ e e' l l' refl

by_loop : (n : Netlist) (ended ended' : Ended) (line line' : Text) → ByLoop n ended line → ByLoop n ended' line' → IsOne ended ended' line line'
by_loop n ended ended' line line' (inl (first, others, loop, e, l)) (inl (first', others', loop', e', l')) =
    loop_of Refused ended ended' line line' Netlists n.name first first' others others' e e' l l' (least_port_is_one n first first' others others' loop loop')
by_loop n ended ended' line line' (inl (first, others, loop, e, l)) (inr (none, more)) = absurd (none first others loop.is_loop)
by_loop n ended ended' line line' (inr (none, more)) (inl (first, others, loop, e, l)) = absurd (none first others loop.is_loop)
by_loop n ended ended' line line' (inr (none, more)) (inr (none', more')) = by_weight n ended ended' line line' more more'

by_rule : (n : Netlist) (ended ended' : Ended) (line line' : Text) → ByRule n ended line → ByRule n ended' line' → IsOne ended ended' line line'
by_rule n ended ended' line line' (inl (rule, item, broken, e, l)) (inl (rule', item', broken', e', l')) =
    let same = net_rule_is_one n rule rule' item item' broken broken' in
    one_of Refused ended ended' line line' _ _ e e' l l' (ap₂ (λ (r i : ℕ). rule_line (rule_name Netlists r) n.name i []) same.0 same.1)
by_rule n ended ended' line line' (inl (rule, item, broken, e, l)) (inr (valid, more)) = absurd (broken_net_is_not_valid n rule item broken valid)
by_rule n ended ended' line line' (inr (valid, more)) (inl (rule, item, broken, e, l)) = absurd (broken_net_is_not_valid n rule item broken valid)
by_rule n ended ended' line line' (inr (valid, more)) (inr (valid', more')) = by_loop n ended ended' line line' more more'

by_grammar : (text : Text) (ended ended' : Ended) (line line' : Text) → ByGrammar text ended line → ByGrammar text ended' line' → IsOne ended ended' line line'
by_grammar text ended ended' line line' (inl (at, refused, e, l)) (inl (at', refused', e', l')) =
    one_of Refused ended ended' line line' _ _ e e' l l' (ap grammar_line (net_place_is_one text at at' refused refused'))
by_grammar text ended ended' line line' (inl (at, refused, e, l)) (inr (n, spells, more)) = absurd (refused.spells_none n spells)
by_grammar text ended ended' line line' (inr (n, spells, more)) (inl (at, refused, e, l)) = absurd (refused.spells_none n spells)
by_grammar text ended ended' line line' (inr (n, spells, more)) (inr (m, spells', more')) =
    by_rule n ended ended' line line' more (subst (λ (x : Netlist). ByRule x ended' line') (one_netlist text m n spells' spells) more')

by_nesting : (text : Text) (ended ended' : Ended) (line line' : Text) → ByNesting text ended line → ByNesting text ended' line' → IsOne ended ended' line line'
by_nesting text ended ended' line line' (inl (deep, e, l)) (inl (deep', e', l')) = one_of Limit ended ended' line line' _ _ e e' l l' refl
by_nesting text ended ended' line line' (inl (deep, e, l)) (inr (shallow, more)) = absurd (omega (arith, deep, shallow))
by_nesting text ended ended' line line' (inr (shallow, more)) (inl (deep, e, l)) = absurd (omega (arith, deep, shallow))
by_nesting text ended ended' line line' (inr (shallow, more)) (inr (shallow', more')) = by_grammar text ended ended' line line' more more'

pub net_refused_once : (text : Text) (ended ended' : Ended) (line line' : Text) → IsRefused text ended line → IsRefused text ended' line' → IsOne ended ended' line line'
net_refused_once text ended ended' line line' p q = by_nesting text ended ended' line line' (in_order text ended line p) (in_order text ended' line' q)

-- ---- what is refused gives nothing

pub net_given_once : (text : Text) (m n : Netlist) → GivesNet text m → GivesNet text n → m ≡ n
net_given_once text m n p q = one_netlist text m n p.accepted.text_of.spells q.accepted.text_of.spells

module _ (text : Text) (m : Netlist) (g : GivesNet text m) where
  same_as : (n : Netlist) → Spells text n → n ≡ m
  same_as n spells = one_netlist text n m spells g.accepted.text_of.spells

  pub net_not_both : (ended : Ended) (line : Text) → IsRefused text ended line → ⊥
  net_not_both ended line (NestsTooDeep over e l) = let shallow = g.accepted.text_of.shallow in omega (arith, over, shallow)
  net_not_both ended line (HasNoGrammar at shallow refused e l) = refused.spells_none m g.accepted.text_of.spells
  net_not_both ended line (BreaksRule n rule item of broken e l) =
      broken_net_is_not_valid m rule item (subst (λ (x : Netlist). FirstBroken x rule item) (same_as n of.spells) broken) g.accepted.valid
  net_not_both ended line (HasLoop n first others of valid loop e l) =
      g.accepted.no_loop first others (subst (λ (x : Netlist). IsLeastLoop x first others) (same_as n of.spells) loop).is_loop
  net_not_both ended line (IsTooHeavy n accepted heavy e l) =
      let same = ap weight_of (same_as n accepted.text_of.spells) in let light = g.light in omega (arith, heavy, same, light)
  net_not_both ended line (HasTooManyWords n accepted light many e l) =
      let same = ap word_total (same_as n accepted.text_of.spells) in let few = g.few_words in omega (arith, many, same, few)
