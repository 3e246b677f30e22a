-- What is told of terminals is told of the text that they stand for.
use Rattle.std.proofs.Common.{◌≡◌, ℕ, suc, ◌-◌, Bool, true, false, List, [], ◌∷◌, length, Some, refl, sym, ap, subst, ◌∙◌}
use Rattle.std.specs.Prelude.{slice_get, MatchBool}
use Rattle.hw_names.specs.Name.{Text, AreDistinct}
use Rattle.hw_names.proofs.NameLemmas.{same_number}
use Rattle.hw_lex.specs.declared.token.Dialect.{Dialect}
use Rattle.hw_lex.specs.declared.token.Kind.{Kind}
use Rattle.hw_lex.specs.declared.token.Token.{Token}
use Rattle.hw_lex.specs.Cut.{token_text}
use Rattle.hw_lex.proofs.Cuts.{tokens_unique}
use Rattle.hw_grammar.specs.declared.sort.Sort.{Sort}
use Rattle.hw_grammar.specs.declared.sort.Sort.TheVariants as sorts
use Rattle.hw_grammar.specs.declared.terminal.Special.{Special}
use Rattle.hw_grammar.specs.declared.terminal.Terminal.{Terminal}
use Rattle.hw_grammar.specs.Sort.{same_sort}
use Rattle.hw_grammar.specs.Grammar.{Lang}
use Rattle.hw_grammar.specs.Place.{Spells, Place}
use Rattle.hw_grammar.specs.Terminals.{IsNumbered, IsTerminal, AreTerminals}
use Rattle.hw_grammar.specs.TextPlace.{byte_of, IsLexed, SpellsText, RefusedText}

-- ---- with one list of names a text has its terminals in one way

make_terminal : Sort → ℕ → Special → ℕ → ℕ → Terminal
make_terminal sort name special width value = record { sort = sort; name = record { 0 = name }; special = special; width = width; value = value }

pub same_terminal : (t u : Terminal) → t.sort ≡ u.sort → t.name.0 ≡ u.name.0 → t.special ≡ u.special → t.width ≡ u.width → t.value ≡ u.value → t ≡ u
unfolding make_terminal
same_terminal t u s n p w v =
    let a : make_terminal t.sort t.name.0 t.special t.width t.value ≡ make_terminal u.sort t.name.0 t.special t.width t.value = ap (λ (x : Sort). make_terminal x t.name.0 t.special t.width t.value) s in
    let b : make_terminal u.sort t.name.0 t.special t.width t.value ≡ make_terminal u.sort u.name.0 t.special t.width t.value = ap (λ (x : ℕ). make_terminal u.sort x t.special t.width t.value) n in
    let c : make_terminal u.sort u.name.0 t.special t.width t.value ≡ make_terminal u.sort u.name.0 u.special t.width t.value = ap (λ (x : Special). make_terminal u.sort u.name.0 x t.width t.value) p in
    let d : make_terminal u.sort u.name.0 u.special t.width t.value ≡ make_terminal u.sort u.name.0 u.special u.width t.value = ap (λ (x : ℕ). make_terminal u.sort u.name.0 u.special x t.value) w in
    let e : make_terminal u.sort u.name.0 u.special u.width t.value ≡ make_terminal u.sort u.name.0 u.special u.width u.value = ap (λ (x : ℕ). make_terminal u.sort u.name.0 u.special u.width x) v in
    a ∙ b ∙ c ∙ d ∙ e

numbered_unique : (names : List Text) (word : Text) (b : Bool) (i j : ℕ) → AreDistinct names → MatchBool b (slice_get names i ≡ Some word) (i ≡ 0) → MatchBool b (slice_get names j ≡ Some word) (j ≡ 0) → i ≡ j
numbered_unique names word true i j distinct p q = same_number names i j word distinct p q
numbered_unique names word false i j distinct p q = p ∙ sym q

terminal_unique : (dialect : Dialect) (names : List Text) (kind : Kind) (word : Text) (t u : Terminal) → AreDistinct names → IsTerminal dialect names kind word t → IsTerminal dialect names kind word u → t ≡ u
terminal_unique dialect names kind word t u distinct p q =
    let sort : t.sort ≡ u.sort = p.sort ∙ sym q.sort in
    let numbered = subst (λ (x : Sort). IsNumbered names word x u.name) (sym sort) q.name in
    same_terminal t u sort (numbered_unique names word (same_sort t.sort sorts.Name) t.name.0 u.name.0 distinct p.name numbered) (p.special ∙ sym q.special) (p.width ∙ sym q.width) (p.value ∙ sym q.value)

terminals_unique : (dialect : Dialect) (names : List Text) (source : List ℕ) (tokens : List Token) (ts us : List Terminal) → AreDistinct names → AreTerminals dialect names source tokens ts → AreTerminals dialect names source tokens us → ts ≡ us
terminals_unique dialect names source [] [] [] distinct p q = refl
terminals_unique dialect names source [] [] (u ∷ us) distinct p q = absurd q
terminals_unique dialect names source [] (t ∷ ts) us distinct p q = absurd p
terminals_unique dialect names source (token ∷ tokens) [] us distinct p q = absurd p
terminals_unique dialect names source (token ∷ tokens) (t ∷ ts) [] distinct p q = absurd q
terminals_unique dialect names source (token ∷ tokens) (t ∷ ts) (u ∷ us) distinct p q =
    let first = terminal_unique dialect names token.kind (token_text source token) t u distinct p.0 q.0 in
    let others = terminals_unique dialect names source tokens ts us distinct p.1 q.1 in
    ap (λ (x : Terminal). x ∷ ts) first ∙ ap (λ (x : List Terminal). u ∷ x) others

pub lexed_unique : (dialect : Dialect) (names : List Text) (source : List ℕ) (toks others : List Token) (ts us : List Terminal) → AreDistinct names → IsLexed dialect names source toks ts → IsLexed dialect names source others us → (toks ≡ others) × (ts ≡ us)
lexed_unique dialect names source toks others ts us distinct p q =
    let same = tokens_unique dialect source toks others p.tokens_are q.tokens_are in
    (same, terminals_unique dialect names source others ts us distinct (subst (λ (x : List Token). AreTerminals dialect names source x ts) same p.terminals_are) q.terminals_are)

-- there is one terminal for each token
pub length-AreTerminals : (dialect : Dialect) (names : List Text) (source : List ℕ) (tokens : List Token) (ts : List Terminal) → AreTerminals dialect names source tokens ts → length ts ≡ length tokens
length-AreTerminals dialect names source [] [] p = refl
length-AreTerminals dialect names source [] (t ∷ ts) p = absurd p
length-AreTerminals dialect names source (token ∷ tokens) [] p = absurd p
length-AreTerminals dialect names source (token ∷ tokens) (t ∷ ts) p = ap suc (length-AreTerminals dialect names source tokens ts p.1)

-- ---- from what a reader says of terminals

pub text_spelled : {A : Type 0} (dialect : Dialect) (L : Lang A) (names : List Text) (source : List ℕ) (tokens : List Token) (ts : List Terminal) (a : A) → IsLexed dialect names source tokens ts → Spells L ts a → SpellsText dialect L names source a
text_spelled dialect L names source tokens ts a lexed s = (tokens, ts, lexed, s)

-- with one list of names a text spells at most one value, where its terminals do
pub text_alone : {A : Type 0} (dialect : Dialect) (L : Lang A) (names : List Text) (source : List ℕ) (tokens : List Token) (ts : List Terminal) (a : A) → AreDistinct names → IsLexed dialect names source tokens ts → ((b : A) → Spells L ts b → b ≡ a)
    → (b : A) → SpellsText dialect L names source b → b ≡ a
text_alone dialect L names source tokens ts a distinct lexed alone b (others, us, lexed', s) =
    let same = (lexed_unique dialect names source others tokens us ts distinct lexed' lexed).1 in
    alone b (subst (λ (x : List Terminal). Spells L x b) same s)

pub text_refused : {A : Type 0} (dialect : Dialect) (L : Lang A) (names : List Text) (source : List ℕ) (tokens : List Token) (ts bad : List Terminal) → IsLexed dialect names source tokens ts → Place L ts (length ts - length bad)
    → RefusedText dialect L names source (byte_of source tokens (length tokens - length bad))
text_refused dialect L names source tokens ts bad lexed place =
    let n : length ts ≡ length tokens = length-AreTerminals dialect names source tokens ts lexed.terminals_are in
    (tokens, ts, lexed, length tokens - length bad, subst (λ (x : ℕ). Place L ts (x - length bad)) n place, refl)
