-- The file of a design gives one design, or is refused with one answer and one line, but for which loop that tells.
use Rattle.std.proofs.Common.{◌≡◌, inl, inr, length, refl, sym, ap, subst, ◌∙◌, arith}
use Rattle.std.proofs.lemmas.Option.{same_Some}
use Rattle.hw_names.specs.Name.{Text}
use Rattle.filc_load.proofs.CalLemmas.{given_cal_not_refused}
use Rattle.filc_load.specs.CalFile.{GivesCal}
use Rattle.filc_load.specs.FilFile.{GivesFil}
use Rattle.filc_load.specs.NetFile.{GivesNet}
use Rattle.filc_load.specs.Source.{Tells, IsTooLong, IsRefusedIn, IsSourceRefused, IsAccepted, too_long_line}
use Rattle.filc_stop.specs.Outcome.{Contents}
use Rattle.filc_stop.specs.declared.ended.Ended.{Ended}
use Rattle.filc_stop.specs.declared.ended.Ended.TheVariants.{Limit}
use Rattle.filc_stop.specs.declared.language.Language.{Language}
use Rattle.filc_stop.specs.declared.language.Language.TheVariants.{Netlists, Filament, Calyx}
use Rattle.filc_laws.proofs.CalSourceLemmas.{cal_refused_once, cal_given_once}
use Rattle.filc_laws.proofs.FilSourceLemmas.{fil_refused_once, fil_given_once, fil_not_both}
use Rattle.filc_laws.proofs.LineLemmas.{IsOne, one_of}
use Rattle.filc_laws.proofs.NetSourceLemmas.{net_refused_once, net_given_once, net_not_both}
use Rattle.filc_laws.specs.OneSource.{NetIsGivenOnce, FilIsGivenOnce, CalIsGivenOnce, SourceIsRefusedOnce, RefusedSourceIsNotAccepted}

-- a file tells one text
told_once : (contents : Contents) (language : Language) (file a b : Text) → Tells contents language file a → Tells contents language file b → a ≡ b
told_once contents language file a b p q = same_Some a b (sym p.told ∙ q.told)

too_long_or_not : (contents : Contents) (language : Language) (file bytes : Text) → IsTooLong contents language file → Tells contents language file bytes → ⊥
too_long_or_not contents language file bytes p q = let same = ap length (same_Some p.bytes bytes (sym p.told ∙ q.told)) in let over = p.over in let within = q.within in omega (arith, over, within, same)

pub net_is_given_once : NetIsGivenOnce
net_is_given_once = λ contents file n other p q.
    net_given_once p.bytes n other p.gives (subst (λ (text : Text). GivesNet text other) (told_once contents Netlists file q.bytes p.bytes q.tells p.tells) q.gives)

pub fil_is_given_once : FilIsGivenOnce
fil_is_given_once = λ contents file d e p q.
    fil_given_once p.bytes d e p.gives (subst (λ (text : Text). GivesFil text e) (told_once contents Filament file q.bytes p.bytes q.tells p.tells) q.gives)

pub cal_is_given_once : CalIsGivenOnce
cal_is_given_once = λ contents file d e p q.
    cal_given_once p.bytes d e p.gives (subst (λ (text : Text). GivesCal text e) (told_once contents Calyx file q.bytes p.bytes q.tells p.tells) q.gives)

text_refused_once : (language : Language) (text : Text) (ended ended' : Ended) (line line' : Text) → IsRefusedIn language text ended line → IsRefusedIn language text ended' line' → IsOne ended ended' line line'
text_refused_once Netlists text ended ended' line line' p q = net_refused_once text ended ended' line line' p q
text_refused_once Filament text ended ended' line line' p q = fil_refused_once text ended ended' line line' p q
text_refused_once Calyx text ended ended' line line' p q = cal_refused_once text ended ended' line line' p q

refused_once : (contents : Contents) (language : Language) (file : Text) (ended ended' : Ended) (line line' : Text) → IsSourceRefused contents language file ended line → IsSourceRefused contents language file ended' line' → IsOne ended ended' line line'
refused_once contents language file ended ended' line line' (inl (long, e, l)) (inl (long', e', l')) = one_of Limit ended ended' line line' (too_long_line language) (too_long_line language) e e' l l' refl
refused_once contents language file ended ended' line line' (inl (long, e, l)) (inr q) = absurd (too_long_or_not contents language file q.bytes long q.tells)
refused_once contents language file ended ended' line line' (inr p) (inl (long, e, l)) = absurd (too_long_or_not contents language file p.bytes long p.tells)
refused_once contents language file ended ended' line line' (inr p) (inr q) =
    text_refused_once language p.bytes ended ended' line line' p.refused
    (subst (λ (text : Text). IsRefusedIn language text ended' line') (told_once contents language file q.bytes p.bytes q.tells p.tells) q.refused)

pub source_is_refused_once : SourceIsRefusedOnce
source_is_refused_once = refused_once

not_accepted : (contents : Contents) (language : Language) (file : Text) (ended : Ended) (line : Text) → IsSourceRefused contents language file ended line → IsAccepted contents language file → ⊥
not_accepted contents Netlists file ended line (inl (long, e, l)) (n, given) = too_long_or_not contents Netlists file given.bytes long given.tells
not_accepted contents Netlists file ended line (inr p) (n, given) =
    net_not_both p.bytes n (subst (λ (text : Text). GivesNet text n) (told_once contents Netlists file given.bytes p.bytes given.tells p.tells) given.gives) ended line p.refused
not_accepted contents Filament file ended line (inl (long, e, l)) (d, given) = too_long_or_not contents Filament file given.bytes long given.tells
not_accepted contents Filament file ended line (inr p) (d, given) =
    fil_not_both p.bytes d (subst (λ (text : Text). GivesFil text d) (told_once contents Filament file given.bytes p.bytes given.tells p.tells) given.gives) ended line p.refused
not_accepted contents Calyx file ended line (inl (long, e, l)) (d, given) = too_long_or_not contents Calyx file given.bytes long given.tells
not_accepted contents Calyx file ended line (inr p) (d, given) =
    given_cal_not_refused p.bytes d ended line (subst (λ (text : Text). GivesCal text d) (told_once contents Calyx file given.bytes p.bytes given.tells p.tells) given.gives) p.refused

pub refused_source_is_not_accepted : RefusedSourceIsNotAccepted
refused_source_is_not_accepted = not_accepted
