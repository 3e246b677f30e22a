-- The shapes of what follows a command's word: which words they are, and which arguments these give. This project's.
use Rattle.std.specs.Prelude.{◌≡◌, ◌<◌, ◌^◌, List, [], ◌∷◌, decimal}
use Rattle.hw_names.specs.Name.{Text}
use Rattle.filc_stop.specs.declared.language.Language.{Language}
use Rattle.filc_stop.specs.declared.language.Language.TheVariants.{Netlists}
use Rattle.filc_core.specs.declared.shape.Designs.{Designs}
use Rattle.filc_core.specs.declared.shape.Designs.TheVariants.{All, Sources, In}
use Rattle.filc_core.specs.declared.shape.Shape.{Shape}
use Rattle.filc_core.specs.declared.shape.Shape.TheVariants.{Design, DesignAndStimulus, DesignAndCount, Count}
use Rattle.filc_core.specs.Arguments.{Arguments}
use Rattle.filc_core.specs.Words.{IsFileIn, IsStimulusName}

-- designs in this language are among them: netlists are made of the other languages' designs, the sources
abbrev pub AreOf : Designs → Language → Type 0
AreOf All language = Unit {0}
AreOf Sources Netlists = ⊥
AreOf Sources language = Unit {0}
AreOf (In one) language = language ≡ one

-- none of them is in a file of this name
abbrev pub IsOfNone : Designs → Text → Type 0
IsOfNone designs file = (language : Language) → AreOf designs language → IsFileIn language file → ⊥

-- the words that follow a command's own
abbrev pub follow : Shape → Arguments → List Text
follow (Design designs) a = a.design ∷ []
follow (DesignAndStimulus designs) a = a.design ∷ a.stimulus ∷ []
follow (DesignAndCount designs) a = a.design ∷ decimal a.count ∷ []
follow Count a = decimal a.count ∷ []

-- the design is one of these, by its file's name
pub record HasDesign (designs : Designs) (a : Arguments) : Type 0 where
  pub is_of : AreOf designs a.language
  pub named : IsFileIn a.language a.design

-- what isn't asked for
abbrev pub HasNoDesign : Arguments → Type 0
HasNoDesign a = (a.language ≡ Netlists) × (a.design ≡ [])

abbrev pub HasNoStimulus : Arguments → Type 0
HasNoStimulus a = a.stimulus ≡ []

abbrev pub HasNoCount : Arguments → Type 0
HasNoCount a = a.count ≡ 0

-- a count is at most 2^64 - 1
abbrev pub HasCount : Arguments → Type 0
HasCount a = a.count < 2 ^ 64

-- what the words give is well formed, and there is nothing else
abbrev pub IsWellFormed : Shape → Arguments → Type 0
IsWellFormed (Design designs) a = HasDesign designs a × HasNoStimulus a × HasNoCount a
IsWellFormed (DesignAndStimulus designs) a = HasDesign designs a × IsStimulusName a.stimulus × HasNoCount a
IsWellFormed (DesignAndCount designs) a = HasDesign designs a × HasNoStimulus a × HasCount a
IsWellFormed Count a = HasNoDesign a × HasNoStimulus a × HasCount a

-- the words are a command's own, and then such arguments
pub record Spells (words : List Text) (word : Text) (shape : Shape) (a : Arguments) : Type 0 where
  pub words_are : words ≡ word ∷ follow shape a
  pub well_formed : IsWellFormed shape a
