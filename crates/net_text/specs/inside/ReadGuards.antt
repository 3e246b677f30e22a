-- Reading a guard at the front of a text: what the private functions compute, on lists. proofs/ shows that they read just the texts of guards.
use Rattle.std.specs.Prelude.{ℕ, zero, suc, ◌+◌, Bool, ◌==◌, if◌then◌else◌, [], ◌∷◌, length, codes, None, Some}
use Rattle.hw_names.specs.Name.{Text}
use Rattle.net_core.specs.Guard.{GuardTree, GuardTrees, Reads, Compares, Negates, AllOf, AnyOf, NoGuards, MoreGuards}
use Rattle.net_core.specs.declared.net.Cmp.{Cmp}
use Rattle.net_core.specs.declared.net.Cmp.TheVariants.{Eq, Neq, Lt, Gt, Le, Ge}
use Rattle.net_core.specs.declared.net.Src.{Src}
use Rattle.net_text.specs.inside.ReadWords.{Read, ◌>>=◌, after, where_after, source_at}

-- an operator with the spaces round it
unfoldable pub operator_at : Text → Read Cmp
operator_at text =
    where_after (after (codes " == ") text) (λ rest. Some (Eq, rest))
    (where_after (after (codes " != ") text) (λ rest. Some (Neq, rest))
    (where_after (after (codes " < ") text) (λ rest. Some (Lt, rest))
    (where_after (after (codes " > ") text) (λ rest. Some (Gt, rest))
    (where_after (after (codes " <= ") text) (λ rest. Some (Le, rest))
    (where_after (after (codes " >= ") text) (λ rest. Some (Ge, rest)) None)))))

-- a comparison in brackets, from its operator on
unfoldable pub test_at : Src Text → Text → Read (GuardTree Text)
test_at left text = do
  op ← operator_at text
  right ← source_at op.1
  rest ← after (codes ")") right.1
  Some (Compares op.0 left right.0, rest)

-- only a source is compared
abbrev pub test_from : GuardTree Text → Text → Read (GuardTree Text)
test_from (Reads left) text = test_at left text
test_from guard text = None

-- the end of a list in brackets, of this first guard and these others
abbrev pub listed : (GuardTrees Text → GuardTree Text) → GuardTree Text → Read (GuardTrees Text) → Read (GuardTree Text)
listed of first others = others >>= λ gs. after (codes ")") gs.1 >>= λ rest. Some (of (MoreGuards first gs.0), rest)

-- a guard in brackets, from its first guard on; `operands` reads the others, after the first mark between two
unfoldable pub bracket_from : Read (GuardTree Text) → (Text → Text → Read (GuardTrees Text)) → Read (GuardTree Text)
bracket_from None operands = None
bracket_from (Some (first, text)) operands =
    where_after (after (codes " & ") text) (λ rest. listed AllOf first (operands (codes " & ") rest))
    (where_after (after (codes " | ") text) (λ rest. listed AnyOf first (operands (codes " | ") rest))
    (test_from first text))

abbrev pub negated_read : Read (GuardTree Text) → Read (GuardTree Text)
negated_read read = read >>= λ g. Some (Negates g.0, g.1)

-- a guard, where `guard` and `operands` read what is inside it
unfoldable pub guard_from : (Text → Read (GuardTree Text)) → (Text → Text → Read (GuardTrees Text)) → Text → Read (GuardTree Text)
guard_from guard operands [] = None
guard_from guard operands (c ∷ cs) =
    if c == 33 then negated_read (guard cs)
    else if c == 40 then bracket_from (guard cs) operands
    else source_at (c ∷ cs) >>= λ s. Some (Reads s.0, s.1)

-- this guard, and those after the next mark
unfoldable pub operands_from : Read (GuardTree Text) → Text → (Text → Read (GuardTrees Text)) → Read (GuardTrees Text)
operands_from None between more = None
operands_from (Some (g, text)) between more =
    where_after (after between text) (λ rest. more rest >>= λ gs. Some (MoreGuards g gs.0, gs.1)) (Some (MoreGuards g NoGuards, text))

-- at most as deep as the first number
unfoldable mutual
  pub guard_within : ℕ → Text → Read (GuardTree Text)
  guard_within zero text = None
  guard_within (suc n) text = guard_from (guard_within n) (operands_within n) text

  pub operands_within : ℕ → Text → Text → Read (GuardTrees Text)
  operands_within zero between text = None
  operands_within (suc n) between text = operands_from (guard_within n text) between (operands_within n between)

-- a guard at the front
abbrev pub guard_at : Text → Read (GuardTree Text)
guard_at text = guard_within (length text) text

-- guards with this mark between each two
abbrev pub operands_at : Text → Text → Read (GuardTrees Text)
operands_at between text = operands_within (length text + 1) between text

-- a guard in brackets, after the first of them
abbrev pub bracket_at : Text → Read (GuardTree Text)
bracket_at text = bracket_from (guard_at text) operands_at

-- the byte of a negation
abbrev pub is_bang : ℕ → Bool
is_bang c = c == 33

-- a guard behind this many negations
abbrev pub negated : ℕ → GuardTree Text → GuardTree Text
negated zero g = g
negated (suc n) g = Negates (negated n g)

-- guards up to the bracket that closes them
abbrev pub closed : Read (GuardTrees Text) → Read (GuardTrees Text)
closed read = read >>= λ gs. after (codes ")") gs.1 >>= λ rest. Some (gs.0, rest)
