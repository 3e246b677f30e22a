-- The parts of a JSON value: members of objects by their keys, items of lists, and whole numbers. This project's.
use Rattle.std.specs.Prelude.{ℕ, List, [], ◌∷◌, Bool, false, if◌then◌else◌, Option, Some, None, option_and_then, option_map, String, string_bytes}
use Rattle.std.specs.List.{list_all, list_any}
use Rattle.std.specs.Str.{bytes_eq}
use Rattle.std.specs.declared.alloc.Global.{Global}
use Rattle.serde_json.specs.Data.{Data, Items, no_items, item, Members, no_members, member}
use Rattle.serde_json.specs.Find.{get, as_number, as_u64, as_array, as_object}
use Rattle.serde_json.specs.View.{view}
use Rattle.serde_json.specs.declared.value.Value.{Value}
use Rattle.hw_names.specs.Name.{Text}

infixl 10 ◌>>=◌
abbrev pub ◌>>=◌ : {A B : Type 0} → Option A → (A → Option B) → Option B
o >>= f = option_and_then f o

-- the value, where the test holds
abbrev pub provided : {A : Type 0} → Bool → Option A → Option A
provided test o = if test then o else None

-- a key of an object, and its value
abbrev pub Member : Type 0
Member = Text × Data

-- the members of an object, in the order of the bytes of their keys
abbrev pub members_of : Members → List Member
members_of no_members = []
members_of (member key value others) = (key, value) ∷ members_of others

-- the items of a list
abbrev pub items_of : Items → List Data
items_of no_items = []
items_of (item value others) = value ∷ items_of others

abbrev pub members_in : Data → Option (List Member)
members_in value = option_map members_of (as_object value)

abbrev pub items_in : Data → Option (List Data)
items_in value = option_map items_of (as_array value)

-- the text is one of these
abbrev pub is_one_of : List Text → Text → Bool
is_one_of texts text = list_any (bytes_eq text) texts

-- each key is one of these
abbrev pub has_only : List Text → List Member → Bool
has_only keys members = list_all (λ (m : Member). is_one_of keys m.0) members

abbrev pub has_only_of : List Text → Option (List Member) → Bool
has_only_of keys None = false
has_only_of keys (Some members) = has_only keys members

-- the value is an object with no other keys than these
abbrev pub is_object_of : List Text → Data → Bool
is_object_of keys value = has_only_of keys (members_in value)

-- the whole number below 2 ^ 64 that a value is
abbrev pub number_in : Data → Option ℕ
number_in value = option_and_then as_u64 (as_number value)

-- the number at this key
abbrev pub number_at : Text → Data → Option ℕ
number_at key value = get key value >>= number_in

-- what each of a list's elements means, where each means something
abbrev pub each : {A B : Type 0} → (A → Option B) → List A → Option (List B)
each meaning [] = Some []
each meaning (x ∷ xs) = meaning x >>= λ y. each meaning xs >>= λ ys. Some (y ∷ ys)

-- an entry of a map of values, as the member that it stands for
abbrev pub member_seen : String Global × Value → Member
member_seen entry = (string_bytes entry.0, view entry.1)
