-- Rules at the entries of a stimulus, and the first that is broken. This project's.
use Rattle.std.specs.Prelude.{◌≡◌, ℕ, ◌+◌, ◌<◌, Bool, true, false, List, take, slice_get, Some}
use Rattle.std.specs.List.{list_all}
use Rattle.stim_read.specs.declared.stim_end.StimEnd.{StimEnd}
use Rattle.stim_read.specs.declared.stim_end.StimEnd.TheVariants.{Refused}

-- a rule at an entry: its number, whether the entry keeps it, and two starts and the delay between them, which are told where S5 is broken, else 0
pub record Rule : Type 0 where
  pub number : ℕ
  pub kept : Bool
  pub first : ℕ
  pub second : ℕ
  pub delay : ℕ

-- a rule with nothing more to tell
abbrev pub rule : ℕ → Bool → Rule
rule number kept = record { number = number; kept = kept; first = 0; second = 0; delay = 0 }

-- the rule that allows a second start only a delay after the first, if it is kept
abbrev pub rule_of_starts : ℕ → ℕ → ℕ → Bool → Rule
rule_of_starts first second delay kept = record { number = 5; kept = kept; first = first; second = second; delay = delay }

-- all these rules are kept
abbrev pub AreKept : List Rule → Type 0
AreKept rules = list_all (λ (r : Rule). r.kept) rules ≡ true

-- what is told of a rule that is broken in the entry with this number
abbrev pub told_of : ℕ → Rule → StimEnd
told_of entry r = Refused r.number entry r.first r.second r.delay

-- this rule is broken in this entry, and nothing more is told
abbrev pub refused : ℕ → ℕ → StimEnd
refused number entry = Refused number entry 0 0 0

-- the entry with this number breaks one of these rules, and this end tells the first that it breaks
pub record TellsFirst (rules : List Rule) (entry : ℕ) (end : StimEnd) : Type 0 where
  pub broken : Rule
  pub place : ℕ
  pub at : slice_get rules place ≡ Some broken
  pub lesser : AreKept (take place rules)
  pub is_broken : broken.kept ≡ false
  pub told : end ≡ told_of entry broken

-- the entry with this number, counted from 0, keeps the rules that there are at it after the earlier entries
abbrev pub EntryKeepsRules : {Entry : Type 0} → (List Entry → Entry → List Rule) → List Entry → ℕ → Type 0
EntryKeepsRules {Entry} rules_at entries k = (entry : Entry) → slice_get entries k ≡ Some entry → AreKept (rules_at (take k entries) entry)

-- each entry keeps them
abbrev pub EntriesKeepRules : {Entry : Type 0} → (List Entry → Entry → List Rule) → List Entry → Type 0
EntriesKeepRules rules_at entries = (k : ℕ) → EntryKeepsRules rules_at entries k

-- the first broken rule: this end tells the first entry that breaks one, and the first rule that it breaks; the entries are numbered from here on
pub record FirstBroken {Entry : Type 0} (rules_at : List Entry → Entry → List Rule) (entries : List Entry) (first : ℕ) (end : StimEnd) : Type 0 where
  pub entry : Entry
  pub place : ℕ
  pub at : slice_get entries place ≡ Some entry
  pub earlier : (k : ℕ) → k < place → EntryKeepsRules rules_at entries k
  pub breaks : TellsFirst (rules_at (take place entries) entry) (first + place) end
