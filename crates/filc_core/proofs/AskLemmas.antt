-- Words of the command line ask for one request: a search of the list of commands by the first word, by how many words there are, and by the language of
-- the second, finds each command from its own words.
use Rattle.std.proofs.Common.{◌≡◌, ◌⊎◌, ℕ, ◌==◌, if◌then◌else◌, List, [], ◌∷◌, length, get_or, Option, Some, None, MatchOption, Bool, true, false, refl, sym, ap, ap₂, subst, ◌∙◌, inl, inr, ⊎_elim}
use Rattle.std.proofs.lemmas.Option.{same_Some}
use Rattle.std.specs.Prelude.{bytes_eq, ◌&&◌}
use Rattle.hw_names.specs.Name.{Text}
use Rattle.filc_stop.specs.declared.language.Language.{Language}
use Rattle.filc_stop.specs.declared.language.Language.TheVariants.{Netlists, Filament, Calyx}
use Rattle.filc_core.specs.declared.name.CommandName.{CommandName}
use Rattle.filc_core.specs.declared.name.CommandName.TheVariants.{Check}
use Rattle.filc_core.specs.declared.name.TheConstants.{COMMANDS}
use Rattle.filc_core.specs.declared.shape.Designs.{Designs}
use Rattle.filc_core.specs.declared.shape.Designs.TheVariants.{All, Sources, In}
use Rattle.filc_core.specs.declared.shape.Shape.{Shape}
use Rattle.filc_core.specs.declared.shape.Shape.TheVariants.{Design, DesignAndStimulus, DesignAndCount, Count}
use Rattle.filc_core.proofs.LanguageLemmas.{language_by_name, named_language}
use Rattle.filc_core.proofs.ShapeLemmas.{spelled_once}
use Rattle.filc_core.specs.Arguments.{Arguments}
use Rattle.filc_core.specs.Request.{Request, Asks, AskNothing, shape_of, word_of}
use Rattle.filc_core.specs.Shape.{AreOf, HasDesign, Spells}
use Rattle.filc_core.specs.inside.Told.{AskNoneOf}

-- ---- what a command's words are

abbrev number_of : Language → ℕ
number_of Netlists = 0
number_of Filament = 1
number_of Calyx = 2

-- designs in this language are among them
abbrev has : Designs → Language → Bool
has All language = true
has Sources Netlists = false
has Sources language = true
has (In one) language = number_of one == number_of language

same_number : (language : Language) → (number_of language == number_of language) ≡ true
same_number Netlists = refl
same_number Filament = refl
same_number Calyx = refl

has_it : (designs : Designs) (language : Language) → AreOf designs language → has designs language ≡ true
has_it All language is = refl
has_it Sources Netlists is = absurd is
has_it Sources Filament is = refl
has_it Sources Calyx is = refl
has_it (In one) language is = ap (λ (l : Language). number_of one == number_of l) is ∙ same_number one

-- the designs that a command is given; a count alone may be the name of any
abbrev designs_of : Shape → Designs
designs_of (Design designs) = designs
designs_of (DesignAndStimulus designs) = designs
designs_of (DesignAndCount designs) = designs
designs_of Count = All

-- how many words there are
abbrev word_count : Shape → ℕ
word_count (Design designs) = 2
word_count (DesignAndStimulus designs) = 3
word_count (DesignAndCount designs) = 3
word_count Count = 2

-- ---- the search

abbrev fits : CommandName → Text → ℕ → Language → Bool
fits command word count language = bytes_eq (word_of command) word && (word_count (shape_of command) == count) && has (designs_of (shape_of command)) language

abbrev first_fit : List CommandName → Text → ℕ → Language → Option CommandName
first_fit [] word count language = None
first_fit (command ∷ commands) word count language = if fits command word count language then Some command else first_fit commands word count language

-- each command is found from its own words
found : (language : Language) (command : CommandName)
    → (if has (designs_of (shape_of command)) language then first_fit COMMANDS.now (word_of command) (word_count (shape_of command)) language else Some command) ≡ Some command
found Netlists Check = refl
found Filament Check = refl
found Calyx Check = refl
found language command = refl

found_by : (command : CommandName) (language : Language) → has (designs_of (shape_of command)) language ≡ true → first_fit COMMANDS.now (word_of command) (word_count (shape_of command)) language ≡ Some command
found_by command language is =
    subst (λ (b : Bool). (if b then first_fit COMMANDS.now (word_of command) (word_count (shape_of command)) language else Some command) ≡ Some command) is (found language command)

-- ---- words find what they ask for

module _ (words : List Text) where
  counted : (word : Text) (shape : Shape) (a : Arguments) → Spells words word shape a → length words ≡ word_count shape
  counted word (Design designs) a spells = ap length spells.words_are
  counted word (DesignAndStimulus designs) a spells = ap length spells.words_are
  counted word (DesignAndCount designs) a spells = ap length spells.words_are
  counted word Count a spells = ap length spells.words_are

  abbrev second : Text
  second = get_or words 1 []

  of_design : (designs : Designs) (a : Arguments) → second ≡ a.design → HasDesign designs a → has designs (language_by_name second) ≡ true
  of_design designs a is design =
      has_it designs (language_by_name second) (subst (AreOf designs) (sym (ap language_by_name is ∙ named_language a.language a.design design.named)) design.is_of)

  has_second : (word : Text) (shape : Shape) (a : Arguments) → Spells words word shape a → has (designs_of shape) (language_by_name second) ≡ true
  has_second word (Design designs) a spells = of_design designs a (ap (λ (ws : List Text). get_or ws 1 []) spells.words_are) spells.well_formed.0
  has_second word (DesignAndStimulus designs) a spells = of_design designs a (ap (λ (ws : List Text). get_or ws 1 []) spells.words_are) spells.well_formed.0
  has_second word (DesignAndCount designs) a spells = of_design designs a (ap (λ (ws : List Text). get_or ws 1 []) spells.words_are) spells.well_formed.0
  has_second word Count a spells = refl

  abbrev searched : Option CommandName
  searched = first_fit COMMANDS.now (get_or words 0 []) (length words) (language_by_name second)

  finds : (r : Request) → Asks words r → searched ≡ Some r.command
  finds r asks =
      let first : get_or words 0 [] ≡ word_of r.command = ap (λ (ws : List Text). get_or ws 0 []) asks.words_are in
      let count = counted (word_of r.command) (shape_of r.command) r.arguments asks in
      ap₂ (λ (word : Text) (n : ℕ). first_fit COMMANDS.now word n (language_by_name second)) first count
      ∙ found_by r.command (language_by_name second) (has_second (word_of r.command) (shape_of r.command) r.arguments asks)

  -- words ask for one request
  pub asks_once : (r r' : Request) → Asks words r → Asks words r' → r ≡ r'
  asks_once r r' asks asks' =
      let command : r.command ≡ r'.command = same_Some r.command r'.command (sym (finds r asks) ∙ finds r' asks') in
      let arguments =
      spelled_once words (word_of r'.command) (shape_of r'.command) r.arguments r'.arguments
      (subst (λ (c : CommandName). Spells words (word_of c) (shape_of c) r.arguments) command asks) asks' in
      λ k. record { command = command k; arguments = arguments k }

  -- ---- what none of the list is, nothing is

  at_first : (x c : CommandName) (rest : Option CommandName) (b : Bool) → (if b then Some x else rest) ≡ Some c → (x ≡ c) ⊎ (rest ≡ Some c)
  at_first x c rest true e = inl (same_Some x c e)
  at_first x c rest false e = inr e

  none_found : (commands : List CommandName) (word : Text) (count : ℕ) (language : Language) → AskNoneOf commands words → (r : Request) → Asks words r → first_fit commands word count language ≡ Some r.command → ⊥
  none_found [] word count language none r asks e = cc e
  none_found (command ∷ commands) word count language none r asks e =
      ⊎_elim (λ same. none.0 r.arguments (subst (λ (c : CommandName). Spells words (word_of c) (shape_of c) r.arguments) (sym same) asks))
      (λ later. none_found commands word count language none.1 r asks later)
      (at_first command r.command (first_fit commands word count language) (fits command word count language) e)

  pub none_asked : AskNoneOf COMMANDS.now words → AskNothing words
  none_asked none r asks = none_found COMMANDS.now (get_or words 0 []) (length words) (language_by_name second) none r asks (finds r asks)

-- more may be said where there is none
pub none_more : {X : Type 0} (none none' : Type 0) (some : X → Type 0) (o : Option X) → (none → none') → MatchOption o none some → MatchOption o none' some
none_more none none' some None more is = more is
none_more none none' some (Some x) more is = is
