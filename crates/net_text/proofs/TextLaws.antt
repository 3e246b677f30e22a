-- Whole texts: their lines, and where they are refused.
use Rattle.std.proofs.Common.{◌≡◌, ℕ, ◌+◌, ◌-◌, ◌<◌, ◌⊎◌, Bool, true, false, not, cond, List, [], ◌∷◌, ◌++◌, length, take, drop, map, codes, Option, Some, None, refl, sym, ap, ◌∙◌, subst, inl, inr, ◌==◌, append_assoc, arith}
use Rattle.std.specs.List.{list_all, flat_map}
use Rattle.std.proofs.lemmas.List.{append-nil, take_at, take-append-drop, length-append, append_cancel_right}
use Rattle.std.proofs.lemmas.List.Concat.{flat_map-append}
use Rattle.hw_names.specs.Name.{Text}
use Rattle.net_core.specs.Netlist.{Netlist, Line, InLine, OutLine, WireLine, CellOf, SetOf, lines_of}
use Rattle.net_text.specs.Layout.{line_text, ended, net_text}
use Rattle.net_text.specs.Names.{is_segment, line_has_text, HasText}
use Rattle.net_text.specs.Reading.{Spells, onto_first, whole_lines, joined, IsViable, IsRefusedAt}
use Rattle.net_text.specs.inside.ReadWords.{◌>>=◌, whole, after, word_at}
use Rattle.net_text.specs.inside.ReadTexts.{in_line, follows, with_line, next_net, empty_net, first_net, front_text}
use Rattle.net_text.specs.inside.ReadLines.{line_of_text}
use Rattle.net_text.proofs.NumberLaws.{both_true, chosen}
use Rattle.net_text.proofs.ParamLemmas.{bind_some}
use Rattle.net_text.proofs.WordLaws.{some_is, either_way, segment_word, after_takes, name_again, name_takes}
use Rattle.net_text.proofs.LineLaws.{line_again, line_takes, whole_is}
use Rattle.net_text.proofs.FeedLaws.{segment_in_line, line_in_line, line_not_end, line_injective}
use Rattle.net_text.proofs.SectionLaws.{follows_in, lines-with_line}

-- ---- lines

abbrev pub end_line : Line → Text
end_line line = ended (line_text line)

-- the lines of a netlist's text, without the last
abbrev pub front_lines : Netlist → List Text
front_lines n = ended (codes "net " ++ n.name) ∷ map end_line (lines_of n)

abbrev pub last_line : Text
last_line = ended (codes "end")

abbrev pub text_lines : Netlist → List Text
text_lines n = front_lines n ++ last_line ∷ []

no_feed : {A : Type 0} (b : Bool) (x y : A) → not b ≡ true → cond b x y ≡ y
no_feed true x y h = absurd cc
no_feed false x y h = refl

pub lines-ended : (line rest : Text) → list_all in_line line ≡ true → whole_lines (line ++ 10 ∷ rest) ≡ ended line ∷ whole_lines rest
lines-ended [] rest h = refl
lines-ended (c ∷ cs) rest h =
    let b = both_true (in_line c) (list_all in_line cs) h in
    no_feed (c == 10) ((10 ∷ []) ∷ whole_lines (cs ++ 10 ∷ rest)) (onto_first c (whole_lines (cs ++ 10 ∷ rest))) b.0 ∙ ap (onto_first c) (lines-ended cs rest b.1)

pub lines-last : (line : Text) → list_all in_line line ≡ true → 0 < length line → whole_lines line ≡ line ∷ []
lines-last [] h some = absurd (omega arith)
lines-last (c ∷ []) h some = let b = both_true (in_line c) true h in no_feed (c == 10) ((10 ∷ []) ∷ []) ((c ∷ []) ∷ []) b.0
lines-last (c ∷ d ∷ cs) h some =
    let b = both_true (in_line c) (list_all in_line (d ∷ cs)) h in
    no_feed (c == 10) ((10 ∷ []) ∷ whole_lines (d ∷ cs)) (onto_first c (whole_lines (d ∷ cs))) b.0 ∙ ap (onto_first c) (lines-last (d ∷ cs) b.1 (omega arith))

abbrev lines_text : List Line → Text
lines_text lines = flat_map (λ line. ended (line_text line)) lines

-- a text after whole lines
lines_after : (lines : List Line) (rest : Text) → list_all line_has_text lines ≡ true → whole_lines (lines_text lines ++ rest) ≡ map end_line lines ++ whole_lines rest
lines_after [] rest h = refl
lines_after (line ∷ lines) rest h =
    let b = both_true (line_has_text line) (list_all line_has_text lines) h in
    let regrouped : lines_text (line ∷ lines) ++ rest ≡ line_text line ++ 10 ∷ (lines_text lines ++ rest) =
    append_assoc (end_line line) (lines_text lines) rest ∙ append_assoc (line_text line) (10 ∷ []) (lines_text lines ++ rest) in
    ap whole_lines regrouped ∙ lines-ended (line_text line) (lines_text lines ++ rest) (line_in_line line b.0) ∙ ap (λ (ls : List Text). end_line line ∷ ls) (lines_after lines rest b.1)

abbrev pub first_line : Netlist → Text
first_line n = codes "net " ++ n.name

pub lines-front : (n : Netlist) (rest : Text) → HasText n → whole_lines (front_text n ++ rest) ≡ front_lines n ++ whole_lines rest
lines-front n rest h =
    let regrouped : front_text n ++ rest ≡ first_line n ++ 10 ∷ (lines_text (lines_of n) ++ rest) =
    append_assoc (ended (first_line n)) (lines_text (lines_of n)) rest ∙ append_assoc (first_line n) (10 ∷ []) (lines_text (lines_of n) ++ rest) in
    ap whole_lines regrouped ∙ lines-ended (first_line n) (lines_text (lines_of n) ++ rest) (segment_in_line n.name h.0) ∙ ap (λ (ls : List Text). ended (first_line n) ∷ ls) (lines_after (lines_of n) rest h.1)

pub lines-text : (n : Netlist) → HasText n → whole_lines (net_text n) ≡ text_lines n
lines-text n h = lines-front n last_line h

joined-map : (lines : List Line) → joined (map end_line lines) ≡ lines_text lines
joined-map [] = refl
joined-map (line ∷ lines) = ap (λ (t : Text). end_line line ++ t) (joined-map lines)

pub joined-front : (n : Netlist) → joined (front_lines n) ≡ front_text n
joined-front n = ap (λ (t : Text). ended (first_line n) ++ t) (joined-map (lines_of n))

pub joined-text : (n : Netlist) → joined (text_lines n) ≡ net_text n
joined-text n = flat_map-append (λ (line : Text). line) (front_lines n) (last_line ∷ []) ∙ ap (λ (t : Text). t ++ last_line) (joined-front n)

-- ---- where a text is refused

-- the text is these lines and a rest, and no netlist's text goes on as the rest does
pub record IsStuck (bytes rest : Text) (front : List Text) : Type 0 where
  pub parts : bytes ≡ joined front ++ rest
  pub lines : whole_lines bytes ≡ front ++ whole_lines rest
  pub viable : (m : Netlist) × HasText m × (more : List Text) × (text_lines m ≡ front ++ more)
  pub hopeless : (m : Netlist) (line : Text) (others more : List Text) → HasText m → whole_lines rest ≡ line ∷ others → text_lines m ≡ front ++ line ∷ more → ⊥
  pub unended : (m : Netlist) → HasText m → whole_lines rest ≡ [] → text_lines m ≡ front → ⊥

stuck_none : (bytes rest : Text) (front ls : List Text) → IsStuck bytes rest front → whole_lines rest ≡ ls → (n : Netlist) → Spells bytes n → ⊥
stuck_none bytes rest front [] s e n spells =
    let same : text_lines n ≡ front = sym (lines-text n spells.0) ∙ ap whole_lines (sym spells.1) ∙ s.lines ∙ ap (λ (ls : List Text). front ++ ls) e ∙ append-nil front in
    s.unended n spells.0 e same
stuck_none bytes rest front (line ∷ others) s e n spells =
    let same : text_lines n ≡ front ++ line ∷ others = sym (lines-text n spells.0) ∙ ap whole_lines (sym spells.1) ∙ s.lines ∙ ap (λ (ls : List Text). front ++ ls) e in
    s.hopeless n line others others spells.0 e same

take_more_lines : (front : List Text) (line : Text) (others : List Text) → take (length front + 1) (front ++ line ∷ others) ≡ front ++ line ∷ []
take_more_lines front line others =
    ap (take (length front + 1)) (sym (append_assoc front (line ∷ []) others)) ∙ take_at (front ++ line ∷ []) others (length front + 1) (length-append front (line ∷ []))

stuck_hopeless : (bytes rest : Text) (front ls : List Text) → IsStuck bytes rest front → whole_lines rest ≡ ls → length front < length (whole_lines bytes) → IsViable (whole_lines bytes) (length front + 1) → ⊥
stuck_hopeless bytes rest front [] s e lt viable = omega (arith, ap length s.lines, ap length e, length-append front (whole_lines rest))
stuck_hopeless bytes rest front (line ∷ others) s e lt viable =
    let k : ℕ = length front + 1 in
    let m = viable.1 in
    let of_m : whole_lines viable.0 ≡ text_lines m = ap whole_lines viable.2.1 ∙ lines-text m viable.2.0 in
    let begins : take k (text_lines m) ≡ front ++ line ∷ [] =
    ap (take k) (sym of_m) ∙ viable.3 ∙ ap (take k) (s.lines ∙ ap (λ (ls : List Text). front ++ ls) e) ∙ take_more_lines front line others in
    let same : text_lines m ≡ front ++ line ∷ drop k (text_lines m) =
    sym (take-append-drop k (text_lines m)) ∙ ap (λ (ls : List Text). ls ++ drop k (text_lines m)) begins ∙ append_assoc front (line ∷ []) (drop k (text_lines m)) in
    s.hopeless m line others (drop k (text_lines m)) viable.2.0 e same

pub refused : (bytes rest : Text) (front : List Text) → IsStuck bytes rest front → IsRefusedAt bytes (length bytes - length rest)
refused bytes rest front s =
    let m = s.viable.0 in
    let of_m : take (length front) (whole_lines (net_text m)) ≡ front =
    ap (take (length front)) (lines-text m s.viable.1 ∙ s.viable.3) ∙ take_at front s.viable.2 (length front) refl in
    let of_bytes : take (length front) (whole_lines bytes) ≡ front = ap (take (length front)) s.lines ∙ take_at front (whole_lines rest) (length front) refl in
    record {
      spells_none = stuck_none bytes rest front (whole_lines rest) s refl;
      line = length front;
      within = omega (arith, ap length s.lines, length-append front (whole_lines rest));
      first_byte = rw of_bytes (omega (arith, ap length s.parts, length-append (joined front) rest));
      viable = (net_text m, m, (s.viable.1, refl), of_m ∙ sym of_bytes);
      hopeless = stuck_hopeless bytes rest front (whole_lines rest) s refl;
    }

-- ---- which lines go on

pub ended_is : (a b : Text) → ended a ≡ ended b → a ≡ b
ended_is a b e = append_cancel_right a b (10 ∷ []) e

pub head_is : {A : Type 0} (x y : A) (xs ys : List A) → x ∷ xs ≡ y ∷ ys → (x ≡ y) × (xs ≡ ys)
head_is x y xs ys e = (cc, cc)

more_is_none : (line : Text) (more : List Text) → line ∷ more ≡ [] → ⊥
more_is_none line more e = cc

cons_both : {A : Type 0} (x y : A) (xs ys : List A) → x ≡ y → xs ≡ ys → x ∷ xs ≡ y ∷ ys
cons_both x y xs ys e f = cc

-- what a netlist's lines are where they begin with those of another: the last line comes next, or one more line
pub goes_on : (xs ls : List Line) (line : Text) (more : List Text) → list_all line_has_text xs ≡ true → list_all line_has_text ls ≡ true → map end_line xs ++ last_line ∷ [] ≡ map end_line ls ++ line ∷ more
    → ((line ≡ last_line) × (more ≡ [])) ⊎ ((x : Line) × (later : List Line) × (xs ≡ ls ++ x ∷ later) × (line_has_text x ≡ true) × (line ≡ end_line x))
goes_on [] [] line more h k e = let p = head_is last_line line [] more e in inl (sym p.0, sym p.1)
goes_on (x ∷ xs) [] line more h k e =
    let p = head_is (end_line x) line (map end_line xs ++ last_line ∷ []) more e in
    inr (x, xs, refl, (both_true (line_has_text x) (list_all line_has_text xs) h).0, sym p.0)
goes_on [] (l ∷ ls) line more h k e =
    let p = head_is last_line (end_line l) [] (map end_line ls ++ line ∷ more) e in
    absurd (line_not_end l (both_true (line_has_text l) (list_all line_has_text ls) k).0 (ended_is (line_text l) (codes "end") (sym p.0)))
goes_on (x ∷ xs) (l ∷ ls) line more h k e =
    let p = head_is (end_line x) (end_line l) (map end_line xs ++ last_line ∷ []) (map end_line ls ++ line ∷ more) e in
    let a = both_true (line_has_text x) (list_all line_has_text xs) h in
    let b = both_true (line_has_text l) (list_all line_has_text ls) k in
    let same : x ≡ l = line_injective x l a.0 b.0 (ended_is (line_text x) (line_text l) p.0) in
    elim (goes_on xs ls line more a.1 b.1 p.1) [
      | inl ends ↦ inl ends
      | inr next ↦ inr (next.0, next.1, cons_both x l xs (ls ++ next.0 ∷ next.1) same next.2, next.3, next.4)
    ]

never_ends : (xs ls : List Line) → list_all line_has_text xs ≡ true → list_all line_has_text ls ≡ true → map end_line xs ++ last_line ∷ [] ≡ map end_line ls → ⊥
never_ends [] [] h k e = cc
never_ends (x ∷ xs) [] h k e = cc
never_ends [] (l ∷ ls) h k e =
    let p = head_is last_line (end_line l) [] (map end_line ls) e in
    line_not_end l (both_true (line_has_text l) (list_all line_has_text ls) k).0 (ended_is (line_text l) (codes "end") (sym p.0))
never_ends (x ∷ xs) (l ∷ ls) h k e =
    let p = head_is (end_line x) (end_line l) (map end_line xs ++ last_line ∷ []) (map end_line ls) e in
    never_ends xs ls (both_true (line_has_text x) (list_all line_has_text xs) h).1 (both_true (line_has_text l) (list_all line_has_text ls) k).1 p.1

-- what comes after a netlist's lines in another's text
abbrev Next : Netlist → Netlist → Text → List Text → Type 0
Next m n line more = ((line ≡ last_line) × (more ≡ [])) ⊎ ((x : Line) × (later : List Line) × (lines_of m ≡ lines_of n ++ x ∷ later) × (line_has_text x ≡ true) × (line ≡ end_line x))

next_in : (m n : Netlist) (line : Text) (more : List Text) → HasText m → HasText n → text_lines m ≡ front_lines n ++ line ∷ more → Next m n line more
next_in m n line more h k e =
    let p = head_is (ended (first_line m)) (ended (first_line n)) (map end_line (lines_of m) ++ last_line ∷ []) (map end_line (lines_of n) ++ line ∷ more) e in
    goes_on (lines_of m) (lines_of n) line more h.1 k.1 p.1

not_ended : (m n : Netlist) → HasText m → HasText n → text_lines m ≡ front_lines n → ⊥
not_ended m n h k e =
    let p = head_is (ended (first_line m)) (ended (first_line n)) (map end_line (lines_of m) ++ last_line ∷ []) (map end_line (lines_of n)) e in
    never_ends (lines_of m) (lines_of n) h.1 k.1 p.1

-- ---- the places that the code finds

pub IsStuck-front : (bytes rest : Text) (n : Netlist) → HasText n → bytes ≡ front_text n ++ rest
    → ((line : Text) (others : List Text) → whole_lines rest ≡ line ∷ others → (line ≡ last_line → ⊥) × ((x : Line) → line_has_text x ≡ true → line ≡ end_line x → follows n x ≡ true → ⊥))
    → IsStuck bytes rest (front_lines n)
IsStuck-front bytes rest n has parts other = record {
  parts = parts ∙ ap (λ (t : Text). t ++ rest) (sym (joined-front n));
  lines = ap whole_lines parts ∙ lines-front n rest has;
  viable = (n, has, last_line ∷ [], refl);
  hopeless = λ m line others more h e same.
      let no = other line others e in
      elim (next_in m n line more h has same) [
        | inl ends ↦ no.0 ends.0
        | inr next ↦ no.1 next.0 next.3 next.4 (follows_in m n next.0 next.1 next.2)
      ];
  unended = λ m h e same. not_ended m n h has same;
}

-- a text that is whole lines of a netlist and a line that does not go on
pub refused_line : (bytes line after : Text) (n : Netlist) → HasText n → bytes ≡ front_text n ++ (line ++ 10 ∷ after) → list_all in_line line ≡ true → (line ≡ codes "end" → ⊥) → next_net n line ≡ None
    → IsRefusedAt bytes (length bytes - length (line ++ 10 ∷ after))
unfolding next_net
refused_line bytes line after n has parts whole not_last none =
    refused bytes (line ++ 10 ∷ after) (front_lines n) (IsStuck-front bytes (line ++ 10 ∷ after) n has parts (λ first others e.
    let p = head_is (ended line) first (whole_lines after) others (sym (lines-ended line after whole) ∙ e) in (
      λ last. not_last (ended_is line (codes "end") (p.0 ∙ last)),
      λ x h is ok.
          let read : line_of_text line ≡ Some x = ap line_of_text (ended_is line (line_text x) (p.0 ∙ is)) ∙ line_again x h in
          let some : ◌≡◌ {A = Option Netlist} (Some (with_line n x)) None = sym (rw (read, ok) refl) ∙ none in cc,
    )))

feed_not_in_line : (t : Text) → list_all in_line (ended t) ≡ true → ⊥
feed_not_in_line [] h = cc
feed_not_in_line (c ∷ cs) h = feed_not_in_line cs (both_true (in_line c) (list_all in_line (ended cs)) h).1

not_ended_line : (line t : Text) → list_all in_line line ≡ true → line ≡ ended t → ⊥
not_ended_line line t h e = feed_not_in_line t (ap (list_all in_line) (sym e) ∙ h)

-- where no line feed is left, no line is whole
unfinished : (rest : Text) → list_all in_line rest ≡ true → (line : Text) (others : List Text) → whole_lines rest ≡ line ∷ others → (t : Text) → line ≡ ended t → ⊥
unfinished [] h line others e t is = cc
unfinished (c ∷ cs) h line others e t is =
    let p = head_is (c ∷ cs) line [] others (sym (lines-last (c ∷ cs) h (omega arith)) ∙ e) in
    not_ended_line (c ∷ cs) t h (p.0 ∙ is)

-- a text that is whole lines of a netlist and no whole line more
pub refused_end : (bytes rest : Text) (n : Netlist) → HasText n → bytes ≡ front_text n ++ rest → list_all in_line rest ≡ true → IsRefusedAt bytes (length bytes - length rest)
refused_end bytes rest n has parts whole = refused bytes rest (front_lines n) (IsStuck-front bytes rest n has parts (λ line others e.
    (λ last. unfinished rest whole line others e (codes "end") last, λ x h is ok. unfinished rest whole line others e (line_text x) is)))

onto_some : (c : ℕ) (ls : List Text) → onto_first c ls ≡ [] → ⊥
onto_some c [] e = cc
onto_some c (l ∷ ls) e = cc

some_lines : (text : Text) → 0 < length text → whole_lines text ≡ [] → ⊥
some_lines [] some e = omega arith
some_lines (c ∷ cs) some e =
    elim (either_way (c == 10) ((10 ∷ []) ∷ whole_lines cs) (onto_first c (whole_lines cs)) [] e) [
      | inl h ↦ cc
      | inr h ↦ onto_some c (whole_lines cs) h.1
    ]

-- a text that goes on after the last line
pub refused_more : (bytes after : Text) (n : Netlist) → HasText n → bytes ≡ net_text n ++ after → 0 < length after → IsRefusedAt bytes (length bytes - length after)
refused_more bytes after n has parts some =
    refused bytes after (text_lines n) (record {
      parts = parts ∙ ap (λ (t : Text). t ++ after) (sym (joined-text n));
      lines = ap whole_lines (parts ∙ append_assoc (front_text n) last_line after) ∙ lines-front n (last_line ++ after) has
          ∙ ap (λ (ls : List Text). front_lines n ++ ls) (lines-ended (codes "end") after refl) ∙ sym (append_assoc (front_lines n) (last_line ∷ []) (whole_lines after));
      viable = (n, has, [], sym (append-nil (text_lines n)));
      hopeless = λ m line others more h e same.
          elim (next_in m n last_line (line ∷ more) h has (same ∙ append_assoc (front_lines n) (last_line ∷ []) (line ∷ more))) [
            | inl ends ↦ more_is_none line more ends.1
            | inr next ↦ line_not_end next.0 next.3 (ended_is (line_text next.0) (codes "end") (sym next.4))
          ];
      unended = λ m h e same. some_lines after some e;
    })

-- ---- the first line

first_again : (name : Text) → is_segment name ≡ true → first_net (codes "net " ++ name) ≡ Some (empty_net name)
unfolding first_net
first_again name h =
    rw (ap (word_at is_segment) (sym (append-nil name)) ∙ name_again is_segment name [] h (segment_word name h) tt) refl

-- the netlist of a first line
pub record IsFirst (line : Text) (n : Netlist) : Type 0 where
  pub has : HasText n
  pub text : front_text n ≡ ended line

pub first_takes : (line : Text) (n : Netlist) → first_net line ≡ Some n → IsFirst line n
unfolding first_net
first_takes line n e =
    let a = bind_some (after (codes "net ") line) (λ rest. whole (word_at is_segment rest) >>= λ name. Some (empty_net name)) n e in
    let b = bind_some (whole (word_at is_segment a.0)) (λ name. Some (empty_net name)) n a.2 in
    let w = name_takes is_segment a.0 b.0 [] (whole_is (word_at is_segment a.0) b.0 b.1) in
    let line_is : line ≡ codes "net " ++ b.0 = after_takes (codes "net ") line a.0 a.1 ∙ ap (λ (t : Text). codes "net " ++ t) (w.0 ∙ append-nil b.0) in
    let made : IsFirst line (empty_net b.0) = record { has = (w.1, refl); text = append-nil (ended (codes "net " ++ b.0)) ∙ ap ended (sym line_is) } in
    subst (IsFirst line) (some_is (empty_net b.0) n b.2) made

IsStuck-first : (bytes : Text) → ((line : Text) (others : List Text) → whole_lines bytes ≡ line ∷ others → (m : Netlist) → HasText m → line ≡ ended (first_line m) → ⊥) → IsStuck bytes bytes []
IsStuck-first bytes never = record {
  parts = refl;
  lines = refl;
  viable = (empty_net (codes "a"), (refl, refl), text_lines (empty_net (codes "a")), refl);
  hopeless = λ m line others more h e same. never line others e m h (sym (head_is (ended (first_line m)) line (map end_line (lines_of m) ++ last_line ∷ []) more same).0);
  unended = λ m h e same. cc;
}

at_front : (bytes : Text) → IsStuck bytes bytes [] → IsRefusedAt bytes 0
at_front bytes s = let z : length bytes - length bytes ≡ 0 = omega arith in subst (IsRefusedAt bytes) z (refused bytes bytes [] s)

pub refused_first : (bytes line after : Text) → bytes ≡ line ++ 10 ∷ after → list_all in_line line ≡ true → first_net line ≡ None → IsRefusedAt bytes 0
refused_first bytes line after parts whole none =
    at_front bytes (IsStuck-first bytes (λ first others e m h is.
    let p = head_is (ended line) first (whole_lines after) others (sym (ap whole_lines parts ∙ lines-ended line after whole) ∙ e) in
    let some : ◌≡◌ {A = Option Netlist} (Some (empty_net m.name)) None = sym (first_again m.name h.0) ∙ ap first_net (sym (ended_is line (first_line m) (p.0 ∙ is))) ∙ none in
    cc))

pub refused_whole : (bytes : Text) → list_all in_line bytes ≡ true → IsRefusedAt bytes 0
refused_whole bytes whole = at_front bytes (IsStuck-first bytes (λ first others e m h is. unfinished bytes whole first others e (first_line m) is))

-- ---- one more line

all_append_lines : (xs : List Line) (line : Line) → list_all line_has_text xs ≡ true → line_has_text line ≡ true → list_all line_has_text (xs ++ line ∷ []) ≡ true
all_append_lines [] line h k = rw k refl
all_append_lines (x ∷ xs) line h k = let b = both_true (line_has_text x) (list_all line_has_text xs) h in rw b.0 (all_append_lines xs line b.1 k)

name-with_line : (n : Netlist) (line : Line) → (with_line n line).name ≡ n.name
unfolding with_line
name-with_line n (InLine p) = refl
name-with_line n (OutLine p) = refl
name-with_line n (WireLine p) = refl
name-with_line n (CellOf c) = refl
name-with_line n (SetOf a) = refl

-- the netlist with this line more
pub record IsNext (n : Netlist) (line : Text) (m : Netlist) : Type 0 where
  pub has : HasText m
  pub text : front_text m ≡ front_text n ++ ended line

pub next_takes : (n : Netlist) (line : Text) (m : Netlist) → HasText n → next_net n line ≡ Some m → IsNext n line m
unfolding next_net
next_takes n line m has e =
    let a = bind_some (line_of_text line) (λ l. cond (follows n l) (Some (with_line n l)) None) m e in
    let l : Line = a.0 in
    let ok = chosen (follows n l) (Some (with_line n l)) m a.2 in
    let is = line_takes line l a.1 in
    let lines = lines-with_line n l ok.0 in
    let name = name-with_line n l in
    let made : IsNext n line (with_line n l) = record {
      has = (ap is_segment name ∙ has.0, ap (list_all line_has_text) lines ∙ all_append_lines (lines_of n) l has.1 is.1);
      text = ap (λ (t : Text). ended (codes "net " ++ t) ++ lines_text (lines_of (with_line n l))) name
          ∙ ap (λ (ls : List Line). ended (first_line n) ++ lines_text ls) lines
          ∙ ap (λ (t : Text). ended (first_line n) ++ t) (flat_map-append (λ (x : Line). ended (line_text x)) (lines_of n) (l ∷ []) ∙ ap (λ (t : Text). lines_text (lines_of n) ++ t) (append-nil (end_line l) ∙ ap ended (sym is.0)))
          ∙ sym (append_assoc (ended (first_line n)) (lines_text (lines_of n)) (ended line));
    } in
    subst (IsNext n line) (some_is (with_line n l) m ok.1) made
