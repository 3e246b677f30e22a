-- Grammars as relations. A language with values relates terminals, a value, and the terminals after those that spell it:
-- L ts a rest says that the terminals of ts before rest spell a. The combinators are the marks of a written grammar
-- (Wirth's extended BNF); that values are part of the relation is this project's own.
use Rattle.std.specs.Prelude.{◌≡◌, ℕ, true, false, List, [], ◌∷◌, ◌⊎◌, Option, Some, None}
use Rattle.hw_names.specs.Name.{Text, text_of}
use Rattle.hw_names.specs.declared.names.NameId.{NameId}
use Rattle.hw_grammar.specs.declared.sort.Sort.{Sort}
use Rattle.hw_grammar.specs.declared.sort.Sort.TheVariants.{Name, Number, Literal}
use Rattle.hw_grammar.specs.declared.terminal.Special.{Special}
use Rattle.hw_grammar.specs.declared.terminal.Terminal.{Terminal}

-- a language whose values are of this type
abbrev pub Lang : Type 0 → Type 1
Lang A = List Terminal → A → List Terminal → Type 0

-- one terminal of the sort; it is its own value
abbrev pub One : Sort → Lang Terminal
One sort ts t rest = (ts ≡ t ∷ rest) × (t.sort ≡ sort)

-- a name whose word has this meaning beside the grammar; it is its own value
abbrev pub OneSpecial : Special → Lang Terminal
OneSpecial special ts t rest = One Name ts t rest × (t.special ≡ special)

-- nothing, with this value
abbrev pub Empty : {A : Type 0} → A → Lang A
Empty v ts a rest = (a ≡ v) × (ts ≡ rest)

-- P, with its value seen by f
abbrev pub Mapped : {A B : Type 0} → (A → B) → Lang A → Lang B
Mapped f P ts b rest = (a : _) × P ts a rest × (b ≡ f a)

-- NAME, whose value is the name's number
abbrev pub AnyName : Lang NameId
AnyName = Mapped (λ t. t.name) (One Name)

-- NAME, with the text that its number has in a list of names
abbrev pub AnyWord : List Text → Lang Text
AnyWord names = Mapped (text_of names) AnyName

-- NUMBER, with its value
abbrev pub AnyNumber : Lang ℕ
AnyNumber = Mapped (λ t. t.value) (One Number)

-- LITERAL, with its width and its value
abbrev pub AnyLiteral : Lang (ℕ × ℕ)
AnyLiteral = Mapped (λ t. (t.width, t.value)) (One Literal)

-- P, then Q
abbrev pub Then : {A B : Type 0} → Lang A → Lang B → Lang (A × B)
Then P Q ts x rest = (mid : List Terminal) × P ts x.0 mid × Q mid x.1 rest

-- P, then a language that its value chooses
abbrev pub ThenBy : {A B : Type 0} → Lang A → (A → Lang B) → Lang (A × B)
ThenBy P Q ts x rest = (mid : List Terminal) × P ts x.0 mid × Q x.0 mid x.1 rest

-- P or Q
abbrev pub Either : {A : Type 0} → Lang A → Lang A → Lang A
Either P Q ts a rest = P ts a rest ⊎ Q ts a rest

-- P or nothing
abbrev pub Optional : {A : Type 0} → Lang A → Lang (Option A)
Optional P = Either (Mapped Some P) (Empty None)

-- a terminal of the sort, then P
abbrev pub After : {A : Type 0} → Sort → Lang A → Lang A
After sort P = Mapped (λ x. x.1) (Then (One sort) P)

-- P, then a terminal of the sort
abbrev pub Closed : {A : Type 0} → Lang A → Sort → Lang A
Closed P sort = Mapped (λ x. x.0) (Then P (One sort))

-- P between a terminal of the one sort and a terminal of the other
abbrev pub Between : {A : Type 0} → Sort → Lang A → Sort → Lang A
Between first P last = After first (Closed P last)

-- P any number of times
abbrev pub Many : {A : Type 0} → Lang A → Lang (List A)
Many P ts [] rest = ts ≡ rest
Many P ts (x ∷ xs) rest = (mid : List Terminal) × P ts x mid × Many P mid xs rest

-- P once or more, with a terminal of the sort between each two
abbrev pub Separated : {A : Type 0} → Sort → Lang A → Lang (List A)
Separated sort P = Mapped (λ x. x.0 ∷ x.1) (Then P (Many (After sort P)))

-- the tail of such a list, which may end with one terminal of the sort more
abbrev pub ListTail : {A : Type 0} → Sort → Lang A → Lang (List A)
ListTail sort P = Mapped (λ x. x.0) (Then (Many (After sort P)) (Either (Mapped (λ _. true) (One sort)) (Empty false)))

-- nothing, or P once or more, with a terminal of the sort between each two and perhaps after the last
abbrev pub Listed : {A : Type 0} → Sort → Lang A → Lang (List A)
Listed sort P = Either (Mapped (λ x. x.0 ∷ x.1) (Then P (ListTail sort P))) (Empty [])
