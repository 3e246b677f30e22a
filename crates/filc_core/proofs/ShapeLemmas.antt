-- Arguments that words spell, by the places of the words.
use Rattle.std.proofs.Common.{◌≡◌, ℕ, ◌<◌, map, List, [], ◌∷◌, length, get_or, Bool, true, false, not, refl, sym, ap, ◌∙◌, subst, arith}
use Rattle.std.specs.Borrow.{Bor}
use Rattle.std.specs.Prelude.{bytes_eq}
use Rattle.std.proofs.lemmas.Fmt.{decimal_injective}
use Rattle.std.proofs.lemmas.List.{length-map, get_or-map}
use Rattle.std.proofs.lemmas.Slice.Eq.{bytes_eq-Decides}
use Rattle.hw_names.specs.Name.{Text}
use Rattle.filc_core.specs.declared.shape.Shape.{Shape}
use Rattle.filc_core.specs.declared.shape.Shape.TheVariants.{Design, DesignAndStimulus, DesignAndCount, Count}
use Rattle.filc_core.proofs.LanguageLemmas.{same_language}
use Rattle.filc_core.proofs.WordLemmas.{no_word}
use Rattle.filc_core.specs.Arguments.{Arguments}
use Rattle.filc_core.specs.Shape.{Spells}
use Rattle.filc_core.specs.Words.{IsFileIn}

-- a word by its place
pub word_at : (words : List (Bor Text)) (texts : List Text) (k : ℕ) → map (λ (w : Bor Text). w.now) words ≡ texts → k < length texts → (get_or words k no_word).now ≡ get_or texts k []
word_at words texts k are within =
    let count : length words ≡ length texts = sym (length-map words (λ (w : Bor Text). w.now)) ∙ ap length are in
    sym (get_or-map (λ (w : Bor Text). w.now) words k no_word [] (omega (arith, count, within))) ∙ ap (λ (ws : List Text). get_or ws k []) are

-- texts that a test tells apart, or doesn't
pub texts_differ : (a b : Text) (r : Bool) → r ≡ not (bytes_eq a b) → r ≡ true → a ≡ b → ⊥
texts_differ a b r is told same =
    let tested : bytes_eq a b ≡ true = (bytes_eq-Decides a b).1 same in
    let bad : true ≡ false = sym told ∙ is ∙ ap not tested in absurd (cc)

pub texts_same : (a b : Text) (r : Bool) → r ≡ not (bytes_eq a b) → r ≡ false → a ≡ b
texts_same a b r is told = by (bytes_eq a b) refl
  where
    by : (t : Bool) → bytes_eq a b ≡ t → a ≡ b
    by true e = (bytes_eq-Decides a b).0 e
    by false e = let bad : false ≡ true = sym told ∙ is ∙ ap not e in absurd (cc)

-- ---- one list of arguments

module _ (words : List Text) (word : Text) where
  -- words have one text at each place
  placed : (k : ℕ) (texts others : List Text) → words ≡ texts → words ≡ others → get_or texts k [] ≡ get_or others k []
  placed k texts others are are' = ap (λ (ws : List Text). get_or ws k []) (sym are ∙ are')

  language_once : (a b : Arguments) → a.design ≡ b.design → IsFileIn a.language a.design → IsFileIn b.language b.design → a.language ≡ b.language
  language_once a b design named named' = same_language a.language b.language b.design (subst (IsFileIn a.language) design named) named'

  pub spelled_once : (shape : Shape) (a b : Arguments) → Spells words word shape a → Spells words word shape b → a ≡ b
  spelled_once (Design designs) a b p q =
      let design : a.design ≡ b.design = placed 1 (word ∷ a.design ∷ []) (word ∷ b.design ∷ []) p.words_are q.words_are in
      let language = language_once a b design p.well_formed.0.named q.well_formed.0.named in
      let stimulus = p.well_formed.1 ∙ sym q.well_formed.1 in
      let count = p.well_formed.2 ∙ sym q.well_formed.2 in
      λ k. record { language = language k; design = design k; stimulus = stimulus k; count = count k }
  spelled_once (DesignAndStimulus designs) a b p q =
      let design : a.design ≡ b.design = placed 1 (word ∷ a.design ∷ a.stimulus ∷ []) (word ∷ b.design ∷ b.stimulus ∷ []) p.words_are q.words_are in
      let stimulus : a.stimulus ≡ b.stimulus = placed 2 (word ∷ a.design ∷ a.stimulus ∷ []) (word ∷ b.design ∷ b.stimulus ∷ []) p.words_are q.words_are in
      let language = language_once a b design p.well_formed.0.named q.well_formed.0.named in
      let count = p.well_formed.2 ∙ sym q.well_formed.2 in
      λ k. record { language = language k; design = design k; stimulus = stimulus k; count = count k }
  spelled_once (DesignAndCount designs) a b p q =
      let same = sym p.words_are ∙ q.words_are in
      let design : a.design ≡ b.design = ap (λ (ws : List Text). get_or ws 1 []) same in
      let count = decimal_injective a.count b.count p.well_formed.2 q.well_formed.2 (ap (λ (ws : List Text). get_or ws 2 []) same) in
      let language = language_once a b design p.well_formed.0.named q.well_formed.0.named in
      let stimulus = p.well_formed.1 ∙ sym q.well_formed.1 in
      λ k. record { language = language k; design = design k; stimulus = stimulus k; count = count k }
  spelled_once Count a b p q =
      let count = decimal_injective a.count b.count p.well_formed.2 q.well_formed.2 (ap (λ (ws : List Text). get_or ws 1 []) (sym p.words_are ∙ q.words_are)) in
      let language = p.well_formed.0.0 ∙ sym q.well_formed.0.0 in
      let design = p.well_formed.0.1 ∙ sym q.well_formed.0.1 in
      let stimulus = p.well_formed.1 ∙ sym q.well_formed.1 in
      λ k. record { language = language k; design = design k; stimulus = stimulus k; count = count k }
