-- Reading the guards of a list one after the other, as a loop does.
use Rattle.std.proofs.Common.{◌≡◌, ℕ, suc, ◌+◌, ◌<◌, List, [], ◌∷◌, ◌++◌, length, take, drop, codes, Bool, true, false, cond, ◌==◌, Option, Some, None, refl, sym, ap, ◌∙◌, arith}
use Rattle.std.specs.List.{prefix_len}
use Rattle.std.proofs.lemmas.Bool.{eqb-false, ne_eqb}
use Rattle.hw_names.specs.Name.{Text, text_of}
use Rattle.hw_names.specs.declared.names.NameId.{NameId}
use Rattle.net_core.specs.Guard.{GuardTree, GuardTrees, Reads, AllOf, AnyOf, NoGuards, MoreGuards, guard_tree}
use Rattle.net_core.specs.declared.net.Guard.{Guard}
use Rattle.net_core.specs.declared.net.Src.{Src}
use Rattle.net_text.specs.inside.ReadWords.{Read, ◌>>=◌, after, number_of, number_at, literal_at, source_at}
use Rattle.net_text.specs.inside.ReadGuards.{test_from, negated_read, negated, is_bang, closed, guard_from, listed, bracket_from, operands_from, guard_within, operands_within, guard_at, operands_at, bracket_at}
use Rattle.net_text.specs.inside.View.{guards_of}
use Rattle.net_text.proofs.GuardTurns.{after_shorter, guard_leaves, same_bracket, operands_turn}
use Rattle.net_text.proofs.WordLaws.{after_takes}

-- ---- runs of `!`

plain_step : (b : Bool) (n x : ℕ) (xs : Text) → is_bang x ≡ b → prefix_len is_bang (drop n xs) ≡ 0 → prefix_len is_bang (drop (cond b (1 + n) 0) (x ∷ xs)) ≡ 0
plain_step true n x xs e h = let k : 1 + n ≡ suc n = omega arith in rw k h
plain_step false n x xs e h = rw e refl

pub plain_after : (xs : Text) → prefix_len is_bang (drop (prefix_len is_bang xs) xs) ≡ 0
plain_after [] = refl
plain_after (x ∷ xs) = plain_step (is_bang x) (prefix_len is_bang xs) x xs refl (plain_after xs)

negated_reads : ℕ → Read (GuardTree Text) → Read (GuardTree Text)
negated_reads n read = read >>= λ g. Some (negated n g.0, g.1)

none_negated : (read : Read (GuardTree Text)) → read ≡ negated_reads 0 read
unfolding negated_reads
none_negated None = refl
none_negated (Some g) = refl

more_negated : (n : ℕ) (read : Read (GuardTree Text)) → negated_read (negated_reads n read) ≡ negated_reads (suc n) read
unfolding negated_reads
more_negated n None = refl
more_negated n (Some g) = refl

bang_step : (b : Bool) (c : ℕ) (cs : Text) (n : ℕ) → is_bang c ≡ b → guard_at cs ≡ negated_reads n (guard_at (drop n cs)) → guard_at (c ∷ cs) ≡ negated_reads (cond b (1 + n) 0) (guard_at (drop (cond b (1 + n) 0) (c ∷ cs)))
unfolding guard_within guard_from
bang_step true c cs n e h =
    let k : 1 + n ≡ suc n = omega arith in
    rw (k, e) (ap negated_read h ∙ more_negated n (guard_at (drop n cs)))
bang_step false c cs n e h = none_negated (guard_at (c ∷ cs))

bangs : (text : Text) → guard_at text ≡ negated_reads (prefix_len is_bang text) (guard_at (drop (prefix_len is_bang text) text))
bangs [] = none_negated (guard_at [])
bangs (c ∷ cs) = bang_step (is_bang c) c cs (prefix_len is_bang cs) refl (bangs cs)

-- a guard behind all `!` at the front
pub negated_guard : (text rest : Text) (n : ℕ) (g : GuardTree Text) (after_g : Text) → n ≡ prefix_len is_bang text → rest ≡ drop n text → guard_at rest ≡ Some (g, after_g) → guard_at text ≡ Some (negated n g, after_g)
unfolding negated_reads
negated_guard text rest n g after_g count left e =
    bangs text ∙ ap (λ (k : ℕ). negated_reads k (guard_at (drop k text))) (sym count) ∙ ap (λ (t : Text). negated_reads n (guard_at t)) (sym left) ∙ ap (negated_reads n) e

pub negated_none : (text rest : Text) (n : ℕ) → n ≡ prefix_len is_bang text → rest ≡ drop n text → guard_at rest ≡ None → guard_at text ≡ None
unfolding negated_reads
negated_none text rest n count left e =
    bangs text ∙ ap (λ (k : ℕ). negated_reads k (guard_at (drop k text))) (sym count) ∙ ap (λ (t : Text). negated_reads n (guard_at t)) (sym left) ∙ ap (negated_reads n) e

-- ---- guards without `!` at the front

pub open_bracket : (text rest : Text) → after (codes "(") text ≡ Some rest → guard_at text ≡ bracket_at rest
unfolding guard_within guard_from
open_bracket text rest e =
    ap guard_at (after_takes (codes "(") text rest e)
    ∙ same_bracket (guard_at rest) (operands_within (length rest)) operands_at (length rest) (guard_leaves (length rest) rest) (λ between t lt. operands_turn (length rest) (length t + 1) between t (omega arith) (omega arith))

nothing_read : source_at [] ≡ None
unfolding source_at literal_at number_at number_of
nothing_read = refl

plain_first : (b : Bool) (n : ℕ) → cond b (1 + n) 0 ≡ 0 → b ≡ false
plain_first true n e = absurd (omega arith)
plain_first false n e = refl

no_mark : (b : Bool) (cs : Text) → ◌≡◌ {A = Option Text} (cond b (Some cs) None) None → b ≡ false
no_mark true cs e = absurd cc
no_mark false cs e = refl

pub plain_source : (text : Text) → prefix_len is_bang text ≡ 0 → after (codes "(") text ≡ None → guard_at text ≡ (source_at text >>= λ s. Some (Reads s.0, s.1))
unfolding guard_within guard_from
plain_source [] plain none = sym (ap (λ (read : Read (Src Text)). read >>= λ s. Some (Reads s.0, s.1)) nothing_read)
plain_source (c ∷ cs) plain none =
    let no_bang : (c == 33) ≡ false = plain_first (is_bang c) (prefix_len is_bang cs) plain in
    let other : c ≡ 40 → ⊥ = λ e. eqb-false 40 c (no_mark (40 == c) cs none) (sym e) in
    rw (no_bang, ne_eqb c 40 other) refl

-- ---- lists in brackets

abbrev made_list : (GuardTrees Text → GuardTree Text) → GuardTree Text → GuardTrees Text × Text → Read (GuardTree Text)
made_list of first gs = Some (of (MoreGuards first gs.0), gs.1)

abbrev kept_list : GuardTrees Text → Text → Read (GuardTrees Text)
kept_list gs rest = Some (gs, rest)

closed_step : (of : GuardTrees Text → GuardTree Text) (first : GuardTree Text) (gs : GuardTrees Text) (end : Option Text) → (end >>= λ rest. made_list of first (gs, rest)) ≡ ((end >>= kept_list gs) >>= made_list of first)
closed_step of first gs None = refl
closed_step of first gs (Some rest) = refl

listed_closed : (of : GuardTrees Text → GuardTree Text) (first : GuardTree Text) (read : Read (GuardTrees Text)) → listed of first read ≡ (closed read >>= made_list of first)
listed_closed of first None = refl
listed_closed of first (Some gs) = closed_step of first gs.0 (after (codes ")") gs.1)

pub all_read : (text : Text) (first : GuardTree Text) (after_first more : Text) (others : GuardTrees Text) (rest : Text) → guard_at text ≡ Some (first, after_first) → after (codes " & ") after_first ≡ Some more → closed (operands_at (codes " & ") more) ≡ Some (others, rest)
    → bracket_at text ≡ Some (AllOf (MoreGuards first others), rest)
unfolding bracket_from
all_read text first after_first more others rest e f h = rw (e, f) (listed_closed AllOf first (operands_at (codes " & ") more) ∙ rw h refl)

pub all_none : (text : Text) (first : GuardTree Text) (after_first more : Text) → guard_at text ≡ Some (first, after_first) → after (codes " & ") after_first ≡ Some more → closed (operands_at (codes " & ") more) ≡ None → bracket_at text ≡ None
unfolding bracket_from
all_none text first after_first more e f h = rw (e, f) (listed_closed AllOf first (operands_at (codes " & ") more) ∙ rw h refl)

pub any_read : (text : Text) (first : GuardTree Text) (after_first more : Text) (others : GuardTrees Text) (rest : Text) → guard_at text ≡ Some (first, after_first) → after (codes " & ") after_first ≡ None → after (codes " | ") after_first ≡ Some more → closed (operands_at (codes " | ") more) ≡ Some (others, rest)
    → bracket_at text ≡ Some (AnyOf (MoreGuards first others), rest)
unfolding bracket_from
any_read text first after_first more others rest e n f h = rw (e, n, f) (listed_closed AnyOf first (operands_at (codes " | ") more) ∙ rw h refl)

pub any_none : (text : Text) (first : GuardTree Text) (after_first more : Text) → guard_at text ≡ Some (first, after_first) → after (codes " & ") after_first ≡ None → after (codes " | ") after_first ≡ Some more → closed (operands_at (codes " | ") more) ≡ None → bracket_at text ≡ None
unfolding bracket_from
any_none text first after_first more e n f h = rw (e, n, f) (listed_closed AnyOf first (operands_at (codes " | ") more) ∙ rw h refl)

pub test_read : (text : Text) (first : GuardTree Text) (after_first : Text) → guard_at text ≡ Some (first, after_first) → after (codes " & ") after_first ≡ None → after (codes " | ") after_first ≡ None → bracket_at text ≡ test_from first after_first
unfolding bracket_from
test_read text first after_first e n m = rw (e, n, m) refl

pub no_bracket : (text : Text) → guard_at text ≡ None → bracket_at text ≡ None
unfolding bracket_from
no_bracket text e = rw e refl

-- the first guard of a list and the others
pub with_first : (names : List Text) (items : List (Guard NameId)) (first : Guard NameId) → take 1 items ≡ first ∷ [] → guards_of names items ≡ MoreGuards (guard_tree (text_of names) first) (guards_of names (drop 1 items))
with_first names [] first e = absurd cc
with_first names (g ∷ items) first e = let same : g ≡ first = cc in ap (λ (h : Guard NameId). MoreGuards (guard_tree (text_of names) h) (guards_of names items)) same

pub has_first : (items : List (Guard NameId)) (first : Guard NameId) → take 1 items ≡ first ∷ [] → 0 < length items
has_first [] first e = absurd cc
has_first (g ∷ items) first e = omega arith

pub take_push : (items : List (Guard NameId)) (first g : Guard NameId) → take 1 items ≡ first ∷ [] → take 1 (items ++ g ∷ []) ≡ first ∷ []
take_push [] first g e = absurd cc
take_push (h ∷ items) first g e = e

-- ---- lists

-- these guards before others
abbrev pub onto : GuardTrees Text → GuardTrees Text → GuardTrees Text
onto NoGuards hs = hs
onto (MoreGuards g gs) hs = MoreGuards g (onto gs hs)

onto_none : (gs : GuardTrees Text) → onto gs NoGuards ≡ gs
onto_none NoGuards = refl
onto_none (MoreGuards g gs) = ap (MoreGuards g) (onto_none gs)

onto_again : (fs gs hs : GuardTrees Text) → onto (onto fs gs) hs ≡ onto fs (onto gs hs)
onto_again NoGuards gs hs = refl
onto_again (MoreGuards f fs) gs hs = ap (MoreGuards f) (onto_again fs gs hs)

guards_of-push : (names : List Text) (gs : List (Guard NameId)) (g : Guard NameId) → guards_of names (gs ++ g ∷ []) ≡ onto (guards_of names gs) (MoreGuards (guard_tree (text_of names) g) NoGuards)
guards_of-push names [] g = refl
guards_of-push names (h ∷ gs) g = ap (MoreGuards (guard_tree (text_of names) h)) (guards_of-push names gs g)

-- what was read before, and what is still read
abbrev pub with_front : GuardTrees Text → Read (GuardTrees Text) → Read (GuardTrees Text)
with_front front read = read >>= λ gs. Some (onto front gs.0, gs.1)

regroup : (front : GuardTrees Text) (g : GuardTree Text) (read : Read (GuardTrees Text)) → with_front front (read >>= λ gs. Some (MoreGuards g gs.0, gs.1)) ≡ with_front (onto front (MoreGuards g NoGuards)) read
regroup front g (Some gs) = ap (λ (hs : GuardTrees Text). Some (hs, gs.1)) (sym (onto_again front (MoreGuards g NoGuards) gs.0))
regroup front g None = refl

-- one turn of reading a list
one_turn : (between text : Text) → operands_at between text ≡ operands_from (guard_at text) between (operands_within (length text) between)
unfolding guard_within
one_turn between text = let n : length text + 1 ≡ suc (length text) = omega arith in ap (λ (k : ℕ). operands_within k between text) n

next_turn : (between text : Text) (g : GuardTree Text) (after_g more : Text) → guard_at text ≡ Some (g, after_g) → after between after_g ≡ Some more → operands_at between text ≡ (operands_at between more >>= λ gs. Some (MoreGuards g gs.0, gs.1))
unfolding operands_from
next_turn between text g after_g more e f =
    let shorter = guard_leaves (length text) text g after_g e in
    let same : operands_within (length text) between more ≡ operands_at between more = operands_turn (length text) (length more + 1) between more (omega (arith, after_shorter between after_g more f)) (omega arith) in
    one_turn between text ∙ rw (e, f, same) refl

last_turn : (between text : Text) (g : GuardTree Text) (after_g : Text) → guard_at text ≡ Some (g, after_g) → after between after_g ≡ None → operands_at between text ≡ Some (MoreGuards g NoGuards, after_g)
unfolding operands_from
last_turn between text g after_g e f = one_turn between text ∙ rw (e, f) refl

no_turn : (between text : Text) → guard_at text ≡ None → operands_at between text ≡ None
unfolding operands_from
no_turn between text e = one_turn between text ∙ rw e refl

pushed : (names : List Text) (items : List (Guard NameId)) (g : Guard NameId) → 0 < length items → guards_of names (drop 1 (items ++ g ∷ [])) ≡ onto (guards_of names (drop 1 items)) (MoreGuards (guard_tree (text_of names) g) NoGuards)
pushed names [] g some = absurd (omega arith)
pushed names (h ∷ items) g some = guards_of-push names items g

pub loop_goes_on : (names : List Text) (items : List (Guard NameId)) (g : Guard NameId) (between text after_g more : Text) (total : Read (GuardTrees Text)) → 0 < length items → guard_at text ≡ Some (guard_tree (text_of names) g, after_g) → after between after_g ≡ Some more
    → with_front (guards_of names (drop 1 items)) (operands_at between text) ≡ total → with_front (guards_of names (drop 1 (items ++ g ∷ []))) (operands_at between more) ≡ total
loop_goes_on names items g between text after_g more total some e f so_far =
    let tree : GuardTree Text = guard_tree (text_of names) g in
    ap (λ (front : GuardTrees Text). with_front front (operands_at between more)) (pushed names items g some)
    ∙ sym (ap (with_front (guards_of names (drop 1 items))) (next_turn between text tree after_g more e f) ∙ regroup (guards_of names (drop 1 items)) tree (operands_at between more))
    ∙ so_far

pub loop_is_done : (names : List Text) (items : List (Guard NameId)) (g : Guard NameId) (between text after_g : Text) (total : Read (GuardTrees Text)) → 0 < length items → guard_at text ≡ Some (guard_tree (text_of names) g, after_g) → after between after_g ≡ None
    → with_front (guards_of names (drop 1 items)) (operands_at between text) ≡ total → total ≡ Some (guards_of names (drop 1 (items ++ g ∷ [])), after_g)
loop_is_done names items g between text after_g total some e f so_far =
    let tree : GuardTree Text = guard_tree (text_of names) g in
    sym so_far ∙ ap (with_front (guards_of names (drop 1 items))) (last_turn between text tree after_g e f)
    ∙ ap (λ (gs : GuardTrees Text). Some (gs, after_g)) (sym (pushed names items g some))

pub loop_fails : (front : GuardTrees Text) (between text : Text) (total : Read (GuardTrees Text)) → guard_at text ≡ None → with_front front (operands_at between text) ≡ total → total ≡ None
loop_fails front between text total e so_far = sym so_far ∙ ap (with_front front) (no_turn between text e)
