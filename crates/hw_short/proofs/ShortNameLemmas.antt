-- Short names, and the order of full names.
use Rattle.std.proofs.Common.{◌≡◌, ◌≢◌, ◌⊎◌, inl, inr, ℕ, zero, suc, ◌+◌, ◌<◌, ◌≤◌, ◌^◌, Bool, true, false, not, ◌||◌, ◌==◌, List, [], ◌∷◌, ◌++◌, Option, Some, None, Vec, Global, Contains, length, map, drop, get_or, option_map, slice_get, refl, sym, ap, ap₂, subst, subst₂, ◌∙◌, append_assoc, arith}
use Rattle.std.specs.Prelude.{All, IfSome, IsTrue}
use Rattle.std.specs.List.{list_any}
use Rattle.std.specs.Cmp.{tied_itself}
use Rattle.std.specs.Cmp.Lexicographic.{slice_cmp}
use Rattle.std.specs.Int.{to_be_bytes, w32}
use Rattle.std.specs.Ordering.{nat_cmp, ordering_then}
use Rattle.std.specs.declared.cmp.Ordering.{Ordering}
use Rattle.std.specs.declared.cmp.Ordering.TheVariants.{Less, Equal, Greater}
use Rattle.std.proofs.lemmas.Bool.{cases_lt}
use Rattle.std.proofs.lemmas.Cmp.{nat_list_cmp_total}
use Rattle.std.proofs.lemmas.List.{get_or_append_left, get_or_default, get_or_push, length-map, length_push}
use Rattle.std.proofs.lemmas.List.Elements.{All-cons, All-nil, All-push}
use Rattle.std.proofs.lemmas.Option.{get_or_from_slice_get, same_Some, slice_get-map, slice_get_within}
use Rattle.hw_names.specs.Name.{HasNoDot, Text, dot}
use Rattle.hw_short.specs.Order.{IsUpTo, TellOrder, text_in}
use Rattle.hw_short.specs.inside.Ranks.{TellTexts}
use Rattle.hw_short.specs.inside.ShortNames.{AreNamed, AreWithin, HasPlaces, HavePlaces, IsPieceFit, IsPlace, IsPlainPiece, KeepsPieces, name_by, name_piece, owner_piece, piece_text, rank_or, three}
use Rattle.hw_short.specs.declared.full_name.FullName.{FullName}
use Rattle.hw_short.specs.declared.full_name.FullName.TheVariants.{Own, Dotted, Nameless}
use Rattle.hw_short.specs.declared.pieces.Piece.{Piece}
use Rattle.hw_short.specs.declared.pieces.Places.{Places}
use Rattle.hw_short.proofs.DotLemmas.{after_owner, before_owner, behind, front, joined, owners_order}
use Rattle.hw_short.proofs.NumeralLemmas.{numerals_order, same_numeral}

abbrev order : Text → Text → Ordering
order = slice_cmp nat_cmp

abbrev bytes : Vec ℕ Global → Text
bytes t = t.items

-- ---- elements of lists

get_left : {X : Type 0} (xs ys : List X) (i : ℕ) (x : X) → slice_get xs i ≡ Some x → slice_get (xs ++ ys) i ≡ Some x
get_left [] ys i x at = absurd (cc)
get_left (z ∷ xs) ys zero x at = at
get_left (z ∷ xs) ys (suc i) x at = get_left xs ys i x at

exists_at : {X : Type 0} (xs : List X) (i : ℕ) → i < length xs → (x : X) × (slice_get xs i ≡ Some x)
exists_at [] i within = absurd (omega arith)
exists_at (x ∷ xs) zero within = (x, refl)
exists_at (x ∷ xs) (suc i) within = exists_at xs i (omega arith)

-- ---- names without a dot

bool_false : (b : Bool) → IsTrue (not b) → b ≡ false
bool_false true h = absurd (cc)
bool_false false h = refl

both_false : (x y : Bool) → (x || y) ≡ false → (x ≡ false) × (y ≡ false)
both_false true y e = absurd (cc)
both_false false y e = (refl, e)

no_dot : (text : Text) → list_any (λ y. y == dot) text ≡ false → HasNoDot text
no_dot [] e = All-nil (λ (byte : ℕ). byte ≢ dot)
no_dot (x ∷ text) e =
    let both = both_false (x == dot) (list_any (λ y. y == dot) text) e in
    All-cons (λ (byte : ℕ). byte ≢ dot) x text (λ same. (let yes : (dot == dot) ≡ false = subst (λ (y : ℕ). (y == dot) ≡ false) same both.0 in cc)) (no_dot text both.1)

pub plain_text : (text : Text) (has : Bool) → has ≡ list_any (λ y. y == dot) text → IsTrue (not has) → HasNoDot text
plain_text text has is h = no_dot text (sym is ∙ bool_false has h)

-- ---- pieces

pub pieces_kept : (old new : List Piece) (it : Piece) → (new ≡ old) ⊎ (new ≡ old ++ it ∷ []) → KeepsPieces old new
pieces_kept old new it (inl e) place there at = ap (λ (l : List Piece). slice_get l place) e ∙ at
pieces_kept old new it (inr e) place there at = ap (λ (l : List Piece). slice_get l place) e ∙ get_left old (it ∷ []) place there at

pub pieces_fit : (count : ℕ) (old new : List Piece) (it : Piece) → (new ≡ old) ⊎ (new ≡ old ++ it ∷ []) → IsPieceFit count it → All (IsPieceFit count) old → All (IsPieceFit count) new
pieces_fit count old new it (inl e) fit all = subst (All (IsPieceFit count)) (sym e) all
pieces_fit count old new it (inr e) fit all = subst (All (IsPieceFit count)) (sym e) (All-push (IsPieceFit count) old it all fit)

place_kept : (old new : List Piece) → KeepsPieces old new → (it : Piece) (o : Option ℕ) → IsPlace old it o → IsPlace new it o
place_kept old new keeps it None at = at
place_kept old new keeps it (Some place) at = keeps place it at

pub places_kept : (old new : List Piece) → KeepsPieces old new → (k : FullName) (p : Places) → HasPlaces old k p → HasPlaces new k p
places_kept old new keeps (Own name) p has = (place_kept old new keeps (name_piece name) p.first has.0, has.1)
places_kept old new keeps (Dotted owner name) p has = (place_kept old new keeps (owner_piece owner) p.first has.0, place_kept old new keeps (name_piece name) p.second has.1)
places_kept old new keeps Nameless p has = has

-- ---- three numbers as a text

abbrev be : ℕ → Text
be n = to_be_bytes w32 n

three_split : (a b c a' b' c' : ℕ) → order (three a b c) (three a' b' c') ≡ ordering_then (order (be a) (be a')) (ordering_then (order (be b) (be b')) (order (be c) (be c')))
three_split a b c a' b' c' =
    ap₂ order (append_assoc (be a) (be b) (be c)) (append_assoc (be a') (be b') (be c'))
    ∙ joined (be a) (be a') (be b ++ be c) (be b' ++ be c') refl
    ∙ ap (ordering_then (order (be a) (be a'))) (joined (be b) (be b') (be c) (be c') refl)

-- the first that differs decides
abbrev IsFirst : ℕ → ℕ → ℕ → ℕ → Type 0
IsFirst a b a' b' = (a < a') ⊎ ((a ≡ a') × (b ≤ b'))

three_order : (a b c a' b' c' : ℕ) → a < 2 ^ 32 → a' < 2 ^ 32 → b < 2 ^ 32 → b' < 2 ^ 32 → order (three a b c) (three a' b' c') ≢ Greater → IsFirst a b a' b'
three_order a b c a' b' c' fits fits' fits_b fits_b' h =
    let one : ordering_then (order (be a) (be a')) (ordering_then (order (be b) (be b')) (order (be c) (be c'))) ≢ Greater = subst (λ (o : Ordering). o ≢ Greater) (three_split a b c a' b' c') h in
    let le : a ≤ a' = numerals_order a a' fits fits' (front (order (be a) (be a')) (ordering_then (order (be b) (be b')) (order (be c) (be c'))) one) in
    elim (cases_lt a a') [
      | inl less ↦ inl less
      | inr more ↦
          let same : a ≡ a' = omega (arith, le, more) in
          let equal : order (be a) (be a') ≡ Equal = subst (λ (n : ℕ). order (be a) (be n) ≡ Equal) same (tied_itself nat_list_cmp_total (be a)) in
          let two = behind (order (be a) (be a')) (ordering_then (order (be b) (be b')) (order (be c) (be c'))) equal one in
          inr (same, numerals_order b b' fits_b fits_b' (front (order (be b) (be b')) (order (be c) (be c')) two))
    ]

pub last_number : (a b c a' b' c' : ℕ) → c < 2 ^ 32 → c' < 2 ^ 32 → three a b c ≡ three a' b' c' → c ≡ c'
last_number a b c a' b' c' fits fits' e = same_numeral c c' fits fits' (ap (drop 8) e)

-- ---- names tell the order of full names

then_less : (o p : Ordering) → o ≡ Less → ordering_then o p ≢ Greater
then_less Less p e = λ bad. cc
then_less Equal p e = λ bad. cc
then_less Greater p e = λ bad. cc

then_equal : (o p : Ordering) → o ≡ Equal → p ≢ Greater → ordering_then o p ≢ Greater
then_equal Less p e h = λ bad. cc
then_equal Equal p e h = h
then_equal Greater p e h = absurd (cc)

up_to_first : (a b a' b' : ℕ) → IsFirst a b a' b' → a ≤ a'
up_to_first a b a' b' (inl less) = omega (arith, less)
up_to_first a b a' b' (inr (same, le)) = omega (arith, same)

-- the number is the rank of the piece
abbrev IsRankOf : List Piece → List ℕ → Piece → ℕ → Type 0
IsRankOf pieces ranks it a = (place : ℕ) × (slice_get pieces place ≡ Some it) × (a ≡ get_or ranks place 0)

-- the two numbers are those of the full name
abbrev Stands : List Piece → List ℕ → FullName → ℕ → ℕ → Type 0
Stands pieces ranks (Own name) a b = IsRankOf pieces ranks (name_piece name) a × (b ≡ 0)
Stands pieces ranks (Dotted owner name) a b = IsRankOf pieces ranks (owner_piece owner) a × IsRankOf pieces ranks (name_piece name) b
Stands pieces ranks Nameless a b = (a ≡ length ranks) × (b ≡ 0)

rank_of : (pieces : List Piece) (ranks : List ℕ) (it : Piece) (o : Option ℕ) (other : ℕ) → IsPlace pieces it o → IsRankOf pieces ranks it (rank_or ranks o other)
rank_of pieces ranks it None other at = absurd at
rank_of pieces ranks it (Some place) other at = (place, at, refl)

stands : (pieces : List Piece) (ranks : List ℕ) (k : FullName) (p : Places) → HasPlaces pieces k p → Stands pieces ranks k (rank_or ranks p.first (length ranks)) (rank_or ranks p.second 0)
stands pieces ranks (Own name) p has = (rank_of pieces ranks (name_piece name) p.first (length ranks) has.0, ap (λ (o : Option ℕ). rank_or ranks o 0) has.1)
stands pieces ranks (Dotted owner name) p has = (rank_of pieces ranks (owner_piece owner) p.first (length ranks) has.0, rank_of pieces ranks (name_piece name) p.second 0 has.1)
stands pieces ranks Nameless p has = (ap (λ (o : Option ℕ). rank_or ranks o (length ranks)) has.0, ap (λ (o : Option ℕ). rank_or ranks o 0) has.1)

module _ (texts : List Text) (pieces : List Piece) (ranks : List ℕ) (tell : TellTexts (map (piece_text texts) pieces) ranks) (plain : All (IsPlainPiece texts) pieces) (few : length ranks < 2 ^ 32) where
  abbrev said : List Text
  said = map (piece_text texts) pieces

  said_at : (place : ℕ) (it : Piece) → slice_get pieces place ≡ Some it → slice_get said place ≡ Some (piece_text texts it)
  said_at place it at = slice_get-map (piece_text texts) pieces place ∙ ap (option_map (piece_text texts)) at

  text_at : (place : ℕ) (it : Piece) → slice_get pieces place ≡ Some it → get_or said place [] ≡ piece_text texts it
  text_at place it at = get_or_from_slice_get said place (piece_text texts it) [] (said_at place it at)

  within_said : (place : ℕ) (it : Piece) → slice_get pieces place ≡ Some it → place < length said
  within_said place it at = slice_get_within said place (piece_text texts it) (said_at place it at)

  rank_few : (place : ℕ) (it : Piece) → slice_get pieces place ≡ Some it → get_or ranks place 0 < length ranks
  rank_few place it at = omega (arith, tell.few place (within_said place it at), tell.sized)

  plain_at : (place : ℕ) (it : Piece) → slice_get pieces place ≡ Some it → HasNoDot (get_or texts it.text [])
  plain_at place it at = subst (IsPlainPiece texts) (get_or_from_slice_get pieces place it it at) (plain place it (slice_get_within pieces place it at))

  less_at : (p q : ℕ) (it other : Piece) → slice_get pieces p ≡ Some it → slice_get pieces q ≡ Some other → get_or ranks p 0 < get_or ranks q 0 → order (piece_text texts it) (piece_text texts other) ≡ Less
  less_at p q it other at at' lt =
      subst₂ (λ (s t : Text). order s t ≡ Less) (text_at p it at) (text_at q other at') (tell.less p q (within_said p it at) (within_said q other at') lt)

  same_at : (p q : ℕ) (it other : Piece) → slice_get pieces p ≡ Some it → slice_get pieces q ≡ Some other → get_or ranks p 0 ≡ get_or ranks q 0 → order (piece_text texts it) (piece_text texts other) ≡ Equal
  same_at p q it other at at' e =
      subst₂ (λ (s t : Text). order s t ≡ Equal) (text_at p it at) (text_at q other at') (tell.same p q (within_said p it at) (within_said q other at') e)

  -- the pieces of one rank up to those of another
  up_to : (p q : ℕ) (it other : Piece) → slice_get pieces p ≡ Some it → slice_get pieces q ≡ Some other → get_or ranks p 0 ≤ get_or ranks q 0 → order (piece_text texts it) (piece_text texts other) ≢ Greater
  up_to p q it other at at' le bad = elim (cases_lt (get_or ranks p 0) (get_or ranks q 0)) [
    | inl less ↦ (let is = less_at p q it other at at' less in cc)
    | inr more ↦ (let same : get_or ranks p 0 ≡ get_or ranks q 0 = omega (arith, le, more) in let is = same_at p q it other at at' same in cc)
  ]

  -- ---- the two numbers of a full name decide

  few_of : (k : FullName) (a b : ℕ) → Stands pieces ranks k a b → (a < 2 ^ 32) × (b < 2 ^ 32)
  few_of (Own name) a b is = (omega (arith, few, is.0.2, rank_few is.0.0 (name_piece name) is.0.1), omega (arith, is.1))
  few_of (Dotted owner name) a b is = (omega (arith, few, is.0.2, rank_few is.0.0 (owner_piece owner) is.0.1), omega (arith, few, is.1.2, rank_few is.1.0 (name_piece name) is.1.1))
  few_of Nameless a b is = (omega (arith, few, is.0), omega (arith, is.1))

  ranked : (it other : Piece) (a b : ℕ) → IsRankOf pieces ranks it a → IsRankOf pieces ranks other b → a ≤ b → order (piece_text texts it) (piece_text texts other) ≢ Greater
  ranked it other a b is is' le = up_to is.0 is'.0 it other is.1 is'.1 (omega (arith, le, is.2, is'.2))

  no_name_after : (it : Piece) (a b : ℕ) → a ≡ length ranks → IsRankOf pieces ranks it b → a ≤ b → ⊥
  no_name_after it a b e is le = omega (arith, e, le, is.2, rank_few is.0 it is.1)

  decide : (k l : FullName) (a b a' b' : ℕ) → Stands pieces ranks k a b → Stands pieces ranks l a' b' → IsFirst a b a' b' → IsUpTo (text_in texts k) (text_in texts l)
  decide (Own p) (Own q) a b a' b' is is' h = ranked (name_piece p) (name_piece q) a a' is.0 is'.0 (up_to_first a b a' b' h)
  decide (Own p) (Dotted d q) a b a' b' is is' h =
      let owner = get_or texts d [] in
      subst (λ (o : Ordering). o ≢ Greater) (sym (before_owner (get_or texts p []) owner (get_or texts q []) (plain_at is.0.0 (name_piece p) is.0.1)))
      (ranked (name_piece p) (owner_piece d) a a' is.0 is'.0 (up_to_first a b a' b' h))
  decide (Own p) Nameless a b a' b' is is' h = tt
  decide (Dotted c p) (Own q) a b a' b' is is' h =
      let owner = get_or texts c [] in
      subst (λ (o : Ordering). o ≢ Greater) (sym (after_owner owner (get_or texts p []) (get_or texts q []) (plain_at is'.0.0 (name_piece q) is'.0.1)))
      (ranked (owner_piece c) (name_piece q) a a' is.0 is'.0 (up_to_first a b a' b' h))
  decide (Dotted c p) (Dotted d q) a b a' b' is is' h =
      let s = get_or texts c [] in
      let t = get_or texts d [] in
      let x = get_or texts p [] in
      let y = get_or texts q [] in
      let owners = order (s ++ dot ∷ []) (t ++ dot ∷ []) in
      subst (λ (o : Ordering). o ≢ Greater) (sym (owners_order s t x y (plain_at is.0.0 (owner_piece c) is.0.1) (plain_at is'.0.0 (owner_piece d) is'.0.1)))
      (elim h [
        | inl less ↦ then_less owners (order x y) (less_at is.0.0 is'.0.0 (owner_piece c) (owner_piece d) is.0.1 is'.0.1 (omega (arith, less, is.0.2, is'.0.2)))
        | inr (same, le) ↦
            then_equal owners (order x y) (same_at is.0.0 is'.0.0 (owner_piece c) (owner_piece d) is.0.1 is'.0.1 (sym is.0.2 ∙ same ∙ is'.0.2))
            (ranked (name_piece p) (name_piece q) b b' is.1 is'.1 le)
      ])
  decide (Dotted c p) Nameless a b a' b' is is' h = tt
  decide Nameless (Own q) a b a' b' is is' h = no_name_after (name_piece q) a a' is.0 is'.0 (up_to_first a b a' b' h)
  decide Nameless (Dotted d q) a b a' b' is is' h = no_name_after (owner_piece d) a a' is.0 is'.0 (up_to_first a b a' b' h)
  decide Nameless Nameless a b a' b' is is' h = tt

  pub names_tell : (full : List FullName) (places : List Places) (names : List Text) → HavePlaces pieces full places → AreNamed ranks places names → TellOrder texts full names
  names_tell full places names have named = record {
    sized = named.sized ∙ have.sized;
    each = λ i j k l at at' le.
        let p = exists_at places i (omega (arith, slice_get_within full i k at, have.sized)) in
        let q = exists_at places j (omega (arith, slice_get_within full j l at', have.sized)) in
        let is = stands pieces ranks k p.0 (have.each i k p.0 at p.1) in
        let is' = stands pieces ranks l q.0 (have.each j l q.0 at' q.1) in
        let a = rank_or ranks p.0.first (length ranks) in
        let b = rank_or ranks p.0.second 0 in
        let a' = rank_or ranks q.0.first (length ranks) in
        let b' = rank_or ranks q.0.second 0 in
        let fits = few_of k a b is in
        let fits' = few_of l a' b' is' in
        let h : order (three a b i) (three a' b' j) ≢ Greater = subst₂ (λ (s t : Text). order s t ≢ Greater) (named.each i p.0 p.1) (named.each j q.0 q.1) le in
        decide k l a b a' b' is is' (three_order a b i a' b' j fits.0 fits'.0 fits.1 fits'.1 h);
  }

-- the places of full names are those of pieces
pub all_within : (pieces : List Piece) (full : List FullName) (places : List Places) → HavePlaces pieces full places → All (AreWithin (length pieces)) places
all_within pieces full places have i d lt =
    let p = exists_at places i lt in
    let k = exists_at full i (omega (arith, lt, have.sized)) in
    subst (AreWithin (length pieces)) (sym (get_or_from_slice_get places i p.0 d p.1)) (by k.0 p.0 (have.each i k.0 p.0 k.1 p.1))
  where
    one : (it : Piece) (o : Option ℕ) → IsPlace pieces it o → IfSome o (λ n. n < length pieces)
    one it None at = tt
    one it (Some n) at = slice_get_within pieces n it at

    none : (o : Option ℕ) → o ≡ None → IfSome o (λ n. n < length pieces)
    none o e = subst (λ (x : Option ℕ). IfSome x (λ n. n < length pieces)) (sym e) tt

    by : (k : FullName) (p : Places) → HasPlaces pieces k p → AreWithin (length pieces) p
    by (Own name) p has = (one (name_piece name) p.first has.0, none p.second has.1)
    by (Dotted owner name) p has = (one (owner_piece owner) p.first has.0, one (name_piece name) p.second has.1)
    by Nameless p has = (none p.first has.0, none p.second has.1)

-- the ranks of texts that were made of pieces tell the order of the pieces' texts
pub pieces_told : (texts : List Text) (pieces listed : List Piece) (made read : List (Vec ℕ Global)) (ranks : List ℕ) → read ≡ made → map bytes made ≡ map (piece_text texts) listed → listed ≡ pieces → TellTexts (map bytes read) ranks
    → TellTexts (map (piece_text texts) pieces) ranks
pieces_told texts pieces listed made read ranks same are among tell = subst (λ (l : List Text). TellTexts l ranks) (ap (map bytes) same ∙ are ∙ ap (map (piece_text texts)) among) tell

pub places_within : (texts : List Text) (pieces : List Piece) (ranks : List ℕ) (full : List FullName) (places : List Places) → TellTexts (map (piece_text texts) pieces) ranks → HavePlaces pieces full places → All (AreWithin (length ranks)) places
places_within texts pieces ranks full places tell have = subst (λ (n : ℕ). All (AreWithin n) places) (sym (tell.sized ∙ length-map pieces (piece_text texts))) (all_within pieces full places have)

-- ---- names are made one after another

-- the names so far
pub record AreNamedTo (ranks : List ℕ) (places : List Places) (n : ℕ) (names : List Text) : Type 0 where
  pub sized : length names ≡ n
  pub each : (i : ℕ) (p : Places) → i < n → slice_get places i ≡ Some p → get_or names i [] ≡ name_by ranks p i

pub rank_up_to : (ranks : List ℕ) (o : Option ℕ) (other : ℕ) → All (λ (r : ℕ). r < length ranks) ranks → IfSome o (λ n. n < length ranks) → other ≤ length ranks → rank_or ranks o other ≤ length ranks
rank_up_to ranks None other all within le = le
rank_up_to ranks (Some n) other all within le = let lt : get_or ranks n 0 < length ranks = all n 0 within in omega (arith, lt)

pub none_named : (ranks : List ℕ) (places : List Places) (names : List Text) → names ≡ [] → AreNamedTo ranks places 0 names
none_named ranks places names none = record { sized = ap length none; each = λ i p lt at. absurd (omega (arith, lt)) }

-- the next name is new
pub next_new : (ranks : List ℕ) (places : List Places) (n : ℕ) (names : List Text) (a b : ℕ) (name : Text) → AreNamedTo ranks places n names → n < length places → n < 2 ^ 32 → name ≡ three a b n → ¬ Contains names name
next_new ranks places n names a b name so_far within fits is has =
    let lt : has.0 < n = omega (arith, has.1, so_far.sized) in
    let p = exists_at places has.0 (omega (arith, lt, within)) in
    let at : get_or names has.0 [] ≡ name = get_or_default names has.0 [] name has.1 ∙ has.2 in
    let same = last_number (rank_or ranks p.0.first (length ranks)) (rank_or ranks p.0.second 0) has.0 a b n (omega (arith, lt, fits)) fits (sym (so_far.each has.0 p.0 lt p.1) ∙ at ∙ is) in
    omega (arith, same, lt)

pub named_more : (ranks : List ℕ) (places : List Places) (n : ℕ) (names new : List Text) (here : Places) (name : Text) → AreNamedTo ranks places n names → slice_get places n ≡ Some here → name ≡ name_by ranks here n → new ≡ names ++ name ∷ []
    → AreNamedTo ranks places (n + 1) new
named_more ranks places n names new here name so_far at is longer = record {
  sized = omega (arith, ap length longer, length_push names name, so_far.sized);
  each = λ i p lt there. elim (cases_lt i n) [
    | inl less ↦
        ap (λ (l : List Text). get_or l i []) longer ∙ get_or_append_left names (name ∷ []) [] i (omega (arith, less, so_far.sized)) ∙ so_far.each i p less there
    | inr more ↦
        let same : n ≡ i = omega (arith, lt, more) in
        let one : here ≡ p = same_Some here p (sym at ∙ ap (slice_get places) same ∙ there) in
        ap (λ (l : List Text). get_or l i []) longer ∙ get_or_push names name [] i (so_far.sized ∙ same) ∙ is ∙ ap₂ (λ (q : Places) (m : ℕ). name_by ranks q m) one same
  ];
}

pub named_all : (ranks : List ℕ) (places : List Places) (n : ℕ) (names : List Text) → length ranks < 2 ^ 32 → length places ≤ n → n ≤ length places → AreNamedTo ranks places n names → AreNamed ranks places names
named_all ranks places n names few le ge so_far = record {
  few = few;
  sized = omega (arith, so_far.sized, le, ge);
  each = λ i p at. so_far.each i p (omega (arith, slice_get_within places i p at, le)) at;
}

-- ---- places of pieces are found one after another

-- the places so far
pub record HavePlacesTo (pieces : List Piece) (full : List FullName) (n : ℕ) (places : List Places) : Type 0 where
  pub sized : length places ≡ n
  pub each : (i : ℕ) (k : FullName) (p : Places) → slice_get full i ≡ Some k → slice_get places i ≡ Some p → HasPlaces pieces k p

pub places_more : (old new : List Piece) (full : List FullName) (n : ℕ) (places more : List Places) (k : FullName) (p : Places) → KeepsPieces old new → slice_get full n ≡ Some k → HasPlaces new k p → more ≡ places ++ p ∷ []
    → HavePlacesTo old full n places → HavePlacesTo new full (n + 1) more
places_more old new full n places more k p keeps at has longer so_far = record {
  sized = omega (arith, ap length longer, length_push places p, so_far.sized);
  each = λ i l q there place. elim (cases_lt i n) [
    | inl less ↦
        let d = exists_at places i (omega (arith, less, so_far.sized)) in
        let same : d.0 ≡ q = same_Some d.0 q (sym (get_left places (p ∷ []) i d.0 d.1) ∙ ap (λ (z : List Places). slice_get z i) (sym longer) ∙ place) in
        subst (HasPlaces new l) same (places_kept old new keeps l d.0 (so_far.each i l d.0 there d.1))
    | inr more' ↦
        let within = slice_get_within more i q place in
        let same : n ≡ i = omega (arith, within, more', ap length longer, length_push places p, so_far.sized) in
        let one : k ≡ l = same_Some k l (sym at ∙ ap (slice_get full) same ∙ there) in
        let last : p ≡ q = sym (get_or_push places p p i (so_far.sized ∙ same)) ∙ ap (λ (z : List Places). get_or z i p) (sym longer) ∙ get_or_from_slice_get more i q p place in
        subst₂ (HasPlaces new) one last has
  ];
}

pub none_placed : (pieces : List Piece) (full : List FullName) (places : List Places) → places ≡ [] → HavePlacesTo pieces full 0 places
none_placed pieces full places none = record {
  sized = ap length none;
  each = λ i k p at place. absurd (omega (arith, slice_get_within places i p place, ap length none));
}

pub places_all : (pieces : List Piece) (full : List FullName) (n : ℕ) (places : List Places) → length full ≤ n → n ≤ length full → HavePlacesTo pieces full n places → HavePlaces pieces full places
places_all pieces full n places le ge so_far = record { sized = omega (arith, so_far.sized, le, ge); each = so_far.each }
