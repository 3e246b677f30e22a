-- The file of a design is accepted or refused, where its content is told.
use Rattle.std.proofs.Common.{◌≡◌, ◌⊎◌, inl, inr, length, Some, refl}
use Rattle.std.proofs.lemmas.Bool.{cases_lt}
use Rattle.hw_names.specs.Name.{Text}
use Rattle.filc_load.specs.Source.{IsAccepted, IsRefusedForSource, IsSourceRefused, Tells, too_long_line}
use Rattle.filc_stop.specs.Language.{most_bytes}
use Rattle.filc_stop.specs.Outcome.{Contents, Outcome, refused_with}
use Rattle.filc_stop.specs.declared.ended.Ended.{Ended}
use Rattle.filc_stop.specs.declared.ended.Ended.TheVariants.{Limit}
use Rattle.filc_stop.specs.declared.language.Language.{Language}
use Rattle.filc_stop.specs.declared.language.Language.TheVariants.{Netlists, Filament, Calyx}
use Rattle.filc_laws.proofs.existence.CalTextLemmas.{IsCalJudged, cal_is_judged}
use Rattle.filc_laws.proofs.existence.Classical.{sure, so}
use Rattle.filc_laws.proofs.existence.FilTextLemmas.{IsFilJudged, fil_is_judged}
use Rattle.filc_laws.proofs.existence.NetTextLemmas.{IsNetJudged, net_is_judged}
use Rattle.filc_laws.specs.Classically.{Classically}

module _ (contents : Contents) (file : Text) where
  abbrev pub IsSourceJudged : Language → Type 0
  IsSourceJudged language = IsAccepted contents language file ⊎ ((o : Outcome) × IsRefusedForSource contents language file o)

  refused_so : (language : Language) (ended : Ended) (line : Text) → IsSourceRefused contents language file ended line → IsSourceJudged language
  refused_so language ended line source = inr (refused_with ended line, record { ended = ended; line = line; source = source; outcome = refl })

  module _ (bytes : Text) where
    of_net : Tells contents Netlists file bytes → IsNetJudged bytes → IsSourceJudged Netlists
    of_net tells (inl (n, gives)) = inl (n, record { bytes = bytes; tells = tells; gives = gives })
    of_net tells (inr (ended, line, refused)) = refused_so Netlists ended line (inr (record { bytes = bytes; tells = tells; refused = refused }))

    of_fil : Tells contents Filament file bytes → IsFilJudged bytes → IsSourceJudged Filament
    of_fil tells (inl (d, gives)) = inl (d, record { bytes = bytes; tells = tells; gives = gives })
    of_fil tells (inr (ended, line, refused)) = refused_so Filament ended line (inr (record { bytes = bytes; tells = tells; refused = refused }))

    of_cal : Tells contents Calyx file bytes → IsCalJudged bytes → IsSourceJudged Calyx
    of_cal tells (inl (d, gives)) = inl (d, record { bytes = bytes; tells = tells; gives = gives })
    of_cal tells (inr (ended, line, refused)) = refused_so Calyx ended line (inr (record { bytes = bytes; tells = tells; refused = refused }))

    of_text : (language : Language) → Tells contents language file bytes → Classically (IsSourceJudged language)
    of_text Netlists tells = so (net_is_judged bytes) (of_net tells)
    of_text Filament tells = so (fil_is_judged bytes) (of_fil tells)
    of_text Calyx tells = so (cal_is_judged bytes) (of_cal tells)

    pub source_is_judged : (language : Language) → contents file ≡ Some bytes → Classically (IsSourceJudged language)
    source_is_judged language told = elim (cases_lt (most_bytes language) (length bytes)) [
      | inl over ↦ sure (refused_so language Limit (too_long_line language) (inl (record { bytes = bytes; told = told; over = over }, refl, refl)))
      | inr within ↦ of_text language (record { told = told; within = within })
    ]
