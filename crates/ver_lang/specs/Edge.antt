-- What the processes do at a rising edge of the clock. IEEE 1364-2005, clause 9, and 11.3 of the order.
use Rattle.std.specs.Prelude.{ℕ, nat_lt, List, [], ◌∷◌, ◌++◌, length, slice_set, bytes_eq, Option, Some, None, option_map, option_and_then, if◌then◌else◌}
use Rattle.hw_names.specs.Name.{Text}
use Rattle.ver_lang.specs.Size.{Widths, size}
use Rattle.ver_lang.specs.Tree.{Statement, Statements, Keeps, Stores, When, WhenElse, Block, NoStatements, MoreStatements, Item, Always}
use Rattle.ver_lang.specs.Value.{Cycle, assigned, chosen, value}

-- what a non-blocking assignment has still to do when its right-hand side is known (9.2.2)
pub data Update : Type 0 where
  -- the register takes the value
  Takes : (register : Text) (value : ℕ) → Update
  -- the word at this place of the memory takes the value
  TakesWord : (memory : Text) (place value : ℕ) → Update

abbrev pub one_after_other : Option (List Update) → Option (List Update) → Option (List Update)
one_after_other first others = option_and_then (λ us. option_map (λ vs. us ++ vs) others) first

-- a word that is there takes the value; of one that isn't there nothing is said
abbrev pub stored : (memory : Text) (count place value : ℕ) → Option (List Update)
stored memory count place v = if nat_lt place count then Some (TakesWord memory place v ∷ []) else None

-- the updates of a statement, from what is held before the edge
abbrev mutual
  pub updates : Widths → Cycle → Statement → Option (List Update)
  updates widths now (Keeps r e) = option_map (λ v. Takes r v ∷ []) (assigned widths now (widths r) e)
  updates widths now (Stores m index e) =
      option_and_then (λ place. option_and_then (stored m (length (now.words m)) place) (assigned widths now (widths m) e))
      (value widths now (size widths index) index)
  updates widths now (When e s) = chosen (value widths now (size widths e) e) (updates widths now s) (Some [])
  updates widths now (WhenElse e s t) = chosen (value widths now (size widths e) e) (updates widths now s) (updates widths now t)
  updates widths now (Block ss) = updates_in_turn widths now ss

  pub updates_in_turn : Widths → Cycle → Statements → Option (List Update)
  updates_in_turn widths now NoStatements = Some []
  updates_in_turn widths now (MoreStatements s ss) = one_after_other (updates widths now s) (updates_in_turn widths now ss)

-- the updates of all processes; which process comes first doesn't matter, as no two assign to one register or memory
abbrev pub all_updates : Widths → Cycle → List Item → Option (List Update)
all_updates widths now [] = Some []
all_updates widths now (Always s ∷ items) = one_after_other (updates widths now s) (all_updates widths now items)
all_updates widths now (item ∷ items) = all_updates widths now items

-- what a register holds after updates: what the last of its own gives, and what it held where there is none
abbrev pub register_after : List Update → Text → ℕ → ℕ
register_after [] r held = held
register_after (Takes register v ∷ us) r held = register_after us r (if bytes_eq register r then v else held)
register_after (TakesWord memory place v ∷ us) r held = register_after us r held

-- the same of a memory's words
abbrev pub words_after : List Update → Text → List ℕ → List ℕ
words_after [] m held = held
words_after (Takes register v ∷ us) m held = words_after us m held
words_after (TakesWord memory place v ∷ us) m held = words_after us m (if bytes_eq memory m then slice_set held place v else held)
