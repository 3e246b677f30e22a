-- Lines of refusals that are one, but for which loop they tell.
use Rattle.std.proofs.Common.{◌≡◌, List, ◌∷◌, refl, sym, ap, ◌∙◌, inl, inr}
use Rattle.hw_names.specs.Name.{Text}
use Rattle.filc_stop.specs.Lines.{loop_text, rule_name, rule_line}
use Rattle.filc_stop.specs.declared.ended.Ended.{Ended}
use Rattle.filc_stop.specs.declared.ended.Ended.TheVariants.{Refused}
use Rattle.filc_stop.specs.declared.language.Language.{Language}
use Rattle.filc_laws.specs.OneLine.{IsSameLine, loop_line, loop_rule}
use Rattle.filc_laws.specs.OneRule.{Broken, AreOneRefusal, loop_in}

-- two refusals are one
abbrev pub IsOne : Ended → Ended → Text → Text → Type 0
IsOne ended ended' line line' = (ended ≡ ended') × IsSameLine line line'

-- both have this answer, and lines that are the same
pub one_of : (answer ended ended' : Ended) (line line' told told' : Text) → ended ≡ answer → ended' ≡ answer → line ≡ told → line' ≡ told' → told ≡ told' → IsOne ended ended' line line'
one_of answer ended ended' line line' told told' e e' l l' same = (e ∙ sym e', inl (l ∙ same ∙ sym l'))

-- both tell a loop from one port on
pub loop_of : (answer ended ended' : Ended) (line line' : Text) (language : Language) (name first first' : Text) (ports ports' : List Text) → ended ≡ answer → ended' ≡ answer → line ≡ loop_line language name (first ∷ ports) → line' ≡ loop_line language name (first' ∷ ports') → first ≡ first' → IsOne ended ended' line line'
loop_of answer ended ended' line line' language name first first' ports ports' e e' l l' same =
    (e ∙ sym e', inr (record { language = language; name = name; first = first; ports = ports; ports' = ports'; told = l; told' = l' ∙ ap (λ (p : Text). loop_line language name (p ∷ ports')) (sym same) }))

-- the line of a broken rule, in a language in which what it shows has this text
abbrev pub line_of : {Shows : Type 0} → Language → (Shows → Text) → Broken Shows → Text
line_of language text b = rule_line (rule_name language b.rule) b.name b.item (text b.shows)

-- refusals of one design by the rules
module _ {Shows : Type 0} (language : Language) (text : Shows → Text) (shown_loop : List Text → Shows) (told : (ports : List Text) → text (shown_loop ports) ≡ loop_text ports) where
  loop_told : (line name : Text) (ports : List Text) (b : Broken Shows) → line ≡ line_of language text b → b ≡ loop_in language name (shown_loop ports) → line ≡ loop_line language name ports
  loop_told line name ports b l shown =
      l ∙ ap (line_of language text) shown ∙ ap (rule_line (rule_name language (loop_rule language)) name 0) (told ports)

  pub one_broken : (ended ended' : Ended) (line line' : Text) (b b' : Broken Shows) → ended ≡ Refused → ended' ≡ Refused → line ≡ line_of language text b → line' ≡ line_of language text b' → AreOneRefusal language shown_loop b b' → IsOne ended ended' line line'
  one_broken ended ended' line line' b b' e e' l l' (inl same) = one_of Refused ended ended' line line' (line_of language text b) (line_of language text b') e e' l l' (ap (line_of language text) same)
  one_broken ended ended' line line' b b' e e' l l' (inr loop) =
      loop_of Refused ended ended' line line' language loop.name loop.first loop.first loop.ports loop.ports' e e'
      (loop_told line loop.name (loop.first ∷ loop.ports) b l loop.shown) (loop_told line' loop.name (loop.first ∷ loop.ports') b' l' loop.shown') refl

pub along_lines : (a b c d : Text) → a ≡ c → b ≡ d → IsSameLine c d → IsSameLine a b
along_lines a b c d e f (inl same) = inl (e ∙ same ∙ sym f)
along_lines a b c d e f (inr loop) = inr (record { language = loop.language; name = loop.name; first = loop.first; ports = loop.ports; ports' = loop.ports'; told = e ∙ loop.told; told' = f ∙ loop.told' })
