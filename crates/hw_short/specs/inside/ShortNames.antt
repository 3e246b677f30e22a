-- Short names by the ranks of the pieces of full names. This project's.
use Rattle.std.specs.Prelude.{◌≡◌, ℕ, List, [], ◌∷◌, ◌++◌, ◌<◌, ◌^◌, cond, true, false, Option, Some, None, IfSome}
use Rattle.std.specs.Prelude.{length, slice_get, slice_index, slice_index_or}
use Rattle.std.specs.Int.{to_be_bytes, w32}
use Rattle.hw_names.specs.Name.{HasNoDot, Text, dot}
use Rattle.hw_short.specs.declared.full_name.FullName.{FullName}
use Rattle.hw_short.specs.declared.full_name.FullName.TheVariants.{Own, Dotted, Nameless}
use Rattle.hw_short.specs.declared.pieces.Piece.{Piece}
use Rattle.hw_short.specs.declared.pieces.Places.{Places}

abbrev pub piece_text : List Text → Piece → Text
piece_text texts it = cond it.is_owner (slice_index_or texts it.text [] ++ dot ∷ []) (slice_index_or texts it.text [])

-- its number is that of a text, of which there are so many
abbrev pub IsPieceFit : ℕ → Piece → Type 0
IsPieceFit count it = it.text < count

-- its name has no dot
abbrev pub IsPlainPiece : List Text → Piece → Type 0
IsPlainPiece texts it = HasNoDot (slice_index_or texts it.text [])

abbrev pub name_piece : ℕ → Piece
name_piece name = record { text = name; is_owner = false }

abbrev pub owner_piece : ℕ → Piece
owner_piece owner = record { text = owner; is_owner = true }

-- each piece keeps its place
abbrev pub KeepsPieces : List Piece → List Piece → Type 0
KeepsPieces old new = (place : ℕ) (it : Piece) → slice_get old place ≡ Some it → slice_get new place ≡ Some it

-- the piece stands at this place
abbrev pub IsPlace : List Piece → Piece → Option ℕ → Type 0
IsPlace pieces it None = ⊥
IsPlace pieces it (Some place) = slice_get pieces place ≡ Some it

-- the pieces of the full name stand at these places
abbrev pub HasPlaces : List Piece → FullName → Places → Type 0
HasPlaces pieces (Own name) places = IsPlace pieces (name_piece name) places.first × (places.second ≡ None)
HasPlaces pieces (Dotted owner name) places = IsPlace pieces (owner_piece owner) places.first × IsPlace pieces (name_piece name) places.second
HasPlaces pieces Nameless places = (places.first ≡ None) × (places.second ≡ None)

-- so of each of the full names
pub record HavePlaces (pieces : List Piece) (full : List FullName) (places : List Places) : Type 0 where
  pub sized : length places ≡ length full
  pub each : (i : ℕ) (k : FullName) (p : Places) → slice_get full i ≡ Some k → slice_get places i ≡ Some p → HasPlaces pieces k p

-- what places they have are below the count
abbrev pub AreWithin : ℕ → Places → Type 0
AreWithin count places = IfSome places.first (λ n. n < count) × IfSome places.second (λ n. n < count)

-- ---- names

abbrev pub three : ℕ → ℕ → ℕ → Text
three a b c = to_be_bytes w32 a ++ to_be_bytes w32 b ++ to_be_bytes w32 c

abbrev pub rank_or : List ℕ → Option ℕ → ℕ → ℕ
rank_or ranks (Some place) other = slice_index ranks place
rank_or ranks None other = other

-- the name by the ranks of its pieces; its own number makes it distinct
abbrev pub name_by : List ℕ → Places → ℕ → Text
name_by ranks places number = three (rank_or ranks places.first (length ranks)) (rank_or ranks places.second 0) number

pub record AreNamed (ranks : List ℕ) (places : List Places) (names : List Text) : Type 0 where
  pub few : length ranks < 2 ^ 32
  pub sized : length names ≡ length places
  pub each : (i : ℕ) (p : Places) → slice_get places i ≡ Some p → slice_index_or names i [] ≡ name_by ranks p i
