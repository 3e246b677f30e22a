-- The words of the command line: names of files, counts. This project's.
use Rattle.std.specs.Prelude.{◌≡◌, ◌≢◌, ℕ, ◌<◌, ◌^◌, [], ◌∷◌, ◌++◌, decimal, ◌⊎◌, length, slice_index}
use Rattle.hw_names.specs.Name.{Text}
use Rattle.filc_stop.specs.Language.{ending_of}
use Rattle.filc_stop.specs.declared.language.Language.{Language}

-- a word that isn't an option: it doesn't begin with a dash (45)
abbrev pub IsPlainWord : Text → Type 0
IsPlainWord [] = Unit {0}
IsPlainWord (c ∷ word) = c ≢ 45

-- the name of a file with this ending, and with at least one byte before it
abbrev pub IsFileName : Text → Text → Type 0
IsFileName ending file = (stem : Text) × (stem ≢ []) × (file ≡ stem ++ ending) × IsPlainWord file

-- the name of a file in this language
abbrev pub IsFileIn : Language → Text → Type 0
IsFileIn language file = IsFileName (ending_of language) file

-- no language's files have names like this word
abbrev pub IsNoFileName : Text → Type 0
IsNoFileName word = (language : Language) → IsFileIn language word → ⊥

-- the name of a stimulus: it is not empty, and no option
abbrev pub IsStimulusName : Text → Type 0
IsStimulusName word = (word ≢ []) × IsPlainWord word

-- a count: decimal digits without a leading zero, at most 2^64 - 1
abbrev pub IsCount : Text → ℕ → Type 0
IsCount word n = (word ≡ decimal n) × (n < 2 ^ 64)

-- no count is spelled so
abbrev pub IsNoCount : Text → Type 0
IsNoCount word = (n : ℕ) → IsCount word n → ⊥

-- a text that begins with a plus (43), or with a zero (48) that isn't all of it: no count is spelled so
abbrev pub HasSignOrZero : Text → Type 0
HasSignOrZero word = (slice_index word 0 ≡ 43) ⊎ ((slice_index word 0 ≡ 48) × (1 < length word))
