-- A file's name has the ending of one language.
use Rattle.std.proofs.Common.{◌≡◌, ◌==◌, if◌then◌else◌, codes, get_or, sym, ap, ◌∙◌}
use Rattle.std.proofs.lemmas.List.{reverse-append}
use Rattle.std.specs.Prelude.{reverse}
use Rattle.hw_names.specs.Name.{Text}
use Rattle.filc_stop.specs.declared.language.Language.{Language}
use Rattle.filc_stop.specs.declared.language.Language.TheVariants.{Netlists, Filament, Calyx}
use Rattle.filc_core.specs.Words.{IsFileIn}

-- the language of a name, by its bytes from the last on: t (116) ends those of netlists, and f (102) is the third of those of Filament's files
abbrev pub language_from_end : Text → Language
language_from_end bytes = if get_or bytes 0 0 == 116 then Netlists else if get_or bytes 2 0 == 102 then Filament else Calyx

abbrev pub language_by_name : Text → Language
language_by_name file = language_from_end (reverse file)

pub named_language : (language : Language) (file : Text) → IsFileIn language file → language_by_name file ≡ language
named_language Netlists file named = ap language_from_end (ap reverse named.2 ∙ reverse-append named.0 (codes ".net"))
named_language Filament file named = ap language_from_end (ap reverse named.2 ∙ reverse-append named.0 (codes ".fil"))
named_language Calyx file named = ap language_from_end (ap reverse named.2 ∙ reverse-append named.0 (codes ".futil"))

-- so it is in one
pub same_language : (language other : Language) (file : Text) → IsFileIn language file → IsFileIn other file → language ≡ other
same_language language other file named named' = sym (named_language language file named) ∙ named_language other file named'
