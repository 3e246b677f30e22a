-- Words that are loaded one after another.
use Rattle.std.proofs.Common.{◌≡◌, ℕ, zero, suc, ◌+◌, ◌-◌, ◌*◌, ◌<◌, ◌≤◌, List, [], ◌∷◌, ◌++◌, length, take, replicate, set, refl, sym, ap, ap₂, ◌∙◌, arith, append_assoc, length-append, length-take}
use Rattle.std.proofs.lemmas.List.{append-nil, take-replicate, take_more}
use Rattle.std.specs.Prelude.{slice_index}
use Rattle.hw_prims.specs.Laws.{LoadsGiveOpening}
use Rattle.hw_prims.specs.Meaning.{opening_state}
use Rattle.hw_prims.specs.Memory.{padded_words, word_count, state_with_word, state_with_words}
use Rattle.hw_prims.specs.State.{Memory}
use Rattle.hw_prims.specs.declared.prim.Primitive.{Primitive}
use Rattle.hw_prims.specs.declared.prim.Primitive.TheVariants.{StdMemD1, StdMemD2}

-- some words, cut from enough zeros after them
take-append-replicate : (count many : ℕ) (words : List ℕ) → length words ≤ count → count ≤ length words + many → take count (words ++ replicate many 0) ≡ words ++ replicate (count - length words) 0
take-append-replicate count many [] short enough =
    let all : count ≤ many = omega (arith, enough) in
    let none : count ≡ count - 0 = omega arith in
    take-replicate count many 0 all ∙ ap (λ (n : ℕ). replicate n 0) none
take-append-replicate zero many (word ∷ words) short enough = absurd (omega (arith, short))
take-append-replicate (suc count) many (word ∷ words) short enough =
    let rest : take count (words ++ replicate many 0) ≡ words ++ replicate (count - length words) 0 = take-append-replicate count many words (omega (arith, short)) (omega (arith, enough)) in
    let same : count - length words ≡ suc count - suc (length words) = omega arith in
    ap (λ (ws : List ℕ). word ∷ ws) (rest ∙ ap (λ (n : ℕ). words ++ replicate n 0) same)

-- the words, then zeros
padded_words-is : (count : ℕ) (words : List ℕ) → length words ≤ count → padded_words count words ≡ words ++ replicate (count - length words) 0
padded_words-is count words short = take-append-replicate count count words short (omega arith)

-- a word put where the second list begins
set-append : (front back : List ℕ) (old new place : ℕ) → length front ≡ place → set (front ++ old ∷ back) place new ≡ (front ++ new ∷ []) ++ back
set-append [] back old new zero after = refl
set-append [] back old new (suc place) after = absurd (omega (arith, after))
set-append (word ∷ front) back old new zero after = absurd (omega (arith, after))
set-append (word ∷ front) back old new (suc place) after =
    let len : length front ≡ place = omega (arith, after) in
    ap (λ (ws : List ℕ). word ∷ ws) (set-append front back old new place len)

-- words loaded after those in front
state_with_words-is : (words front : List ℕ) (place many done : ℕ) → length front ≡ place → length words ≤ many → state_with_words (Memory (front ++ replicate many 0) done) place words ≡ Memory ((front ++ words) ++ replicate (many - length words) 0) done
state_with_words-is [] front place many done after short =
    let same : many ≡ many - 0 = omega arith in
    ap₂ (λ (ws : List ℕ) (n : ℕ). Memory (ws ++ replicate n 0) done) (sym (append-nil front)) same
state_with_words-is (word ∷ words) front place zero done after short = absurd (omega (arith, short))
state_with_words-is (word ∷ words) front place (suc many) done after short =
    let put : set (front ++ replicate (suc many) 0) place word ≡ (front ++ word ∷ []) ++ replicate many 0 = set-append front (replicate many 0) 0 word place after in
    let len : length (front ++ word ∷ []) ≡ place + 1 = omega (arith, length-append front (word ∷ [])) in
    let same : many - length words ≡ suc many - suc (length words) = omega arith in
    ap (λ (ws : List ℕ). state_with_words (Memory ws done) (place + 1) words) put
    ∙ state_with_words-is words (front ++ word ∷ []) (place + 1) many done len (omega (arith, short))
    ∙ ap₂ (λ (ws : List ℕ) (n : ℕ). Memory (ws ++ replicate n 0) done) (append_assoc front (word ∷ []) words) same

state_with_words-padded_words : (count : ℕ) (words : List ℕ) → length words ≤ count → state_with_words (Memory (padded_words count []) 0) 0 words ≡ Memory (padded_words count words) 0
state_with_words-padded_words count words short =
    let none : padded_words count [] ≡ replicate count 0 = take-replicate count count 0 (omega arith) in
    ap (λ (ws : List ℕ). state_with_words (Memory ws 0) 0 words) none
    ∙ state_with_words-is words [] 0 count 0 refl short
    ∙ ap (λ (ws : List ℕ). Memory ws 0) (sym (padded_words-is count words short))

-- words that are loaded one after another are those of the opening state
pub loads_give_opening : LoadsGiveOpening
unfolding opening_state word_count
loads_give_opening (StdMemD1 w size idx) words short = state_with_words-padded_words size words short
loads_give_opening (StdMemD2 w size0 size1 idx0 idx1) words short = state_with_words-padded_words (size0 * size1) words short
loads_give_opening prim [] short = refl
loads_give_opening prim (word ∷ words) short = absurd (omega (arith, short))

set-padded_words : (count : ℕ) (words : List ℕ) (k : ℕ) → length words ≤ count → k < length words → set (padded_words count (take k words)) k (slice_index words k) ≡ padded_words count (take (k + 1) words)
set-padded_words count words k short within =
    let word : ℕ = slice_index words k in
    let here : length (take k words) ≡ k = omega (arith, length-take k words) in
    let more : length (take (k + 1) words) ≡ k + 1 = omega (arith, length-take (k + 1) words) in
    let before : count - length (take k words) ≡ suc (count - (k + 1)) = omega arith in
    let after : count - (k + 1) ≡ count - length (take (k + 1) words) = omega arith in
    ap (λ (ws : List ℕ). set ws k word) (padded_words-is count (take k words) (omega arith) ∙ ap (λ (n : ℕ). take k words ++ replicate n 0) before)
    ∙ set-append (take k words) (replicate (count - (k + 1)) 0) 0 word k here
    ∙ ap₂ (λ (ws : List ℕ) (n : ℕ). ws ++ replicate n 0) (sym (take_more words k 0 within)) after
    ∙ sym (padded_words-is count (take (k + 1) words) (omega arith))

-- one word more, as a loop loads them
pub state_with_word-opening_state : (prim : Primitive) (words : List ℕ) (k : ℕ) → length words ≤ word_count prim → k < length words → state_with_word (opening_state prim (take k words)) k (slice_index words k) ≡ opening_state prim (take (k + 1) words)
unfolding opening_state word_count
state_with_word-opening_state (StdMemD1 w size idx) words k short within =
    ap (λ (ws : List ℕ). Memory ws 0) (set-padded_words size words k short within)
state_with_word-opening_state (StdMemD2 w size0 size1 idx0 idx1) words k short within =
    ap (λ (ws : List ℕ). Memory ws 0) (set-padded_words (size0 * size1) words k short within)
state_with_word-opening_state prim words k short within = absurd (omega (arith, short))
