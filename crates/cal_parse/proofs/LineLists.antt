-- Lines of groups and of wires are split into two lists, one after the other.
use Rattle.std.proofs.Common.{◌≡◌, List, [], ◌∷◌, ◌++◌, Ok, Err, refl, sym, ap, ◌∙◌}
use Rattle.hw_names.specs.Name.{Text}
use Rattle.hw_grammar.specs.declared.terminal.Terminal.{Terminal}
use Rattle.hw_grammar.specs.declared.end.ReadEnd.{ReadEnd}
use Rattle.hw_grammar.specs.Reading.{Fails, many}
use Rattle.cal_ast.specs.Tree.{Assignment, DoneLine, GroupDef}
use Rattle.cal_parse.specs.Grammar.{GroupLine, AssignmentLine, LineOfDone, assignments_in, dones_in, lines_from, Wire, GroupWire, AssignmentWire, groups_in, sets_in, wires_from}
use Rattle.cal_parse.specs.inside.Reading.{pin_set, line_at, lines_at, wire_set, wire_at, wire_list_at}
use Rattle.hw_grammar.proofs.Steps.{mapped_ok, mapped_fails}

assignments_in_push : (xs : List GroupLine) (x : GroupLine) → assignments_in (xs ++ x ∷ []) ≡ assignments_in xs ++ assignments_in (x ∷ [])
assignments_in_push [] x = refl
assignments_in_push (AssignmentLine a ∷ xs) x = ap (λ (t : List Assignment). a ∷ t) (assignments_in_push xs x)
assignments_in_push (LineOfDone d ∷ xs) x = assignments_in_push xs x

dones_in_push : (xs : List GroupLine) (x : GroupLine) → dones_in (xs ++ x ∷ []) ≡ dones_in xs ++ dones_in (x ∷ [])
dones_in_push [] x = refl
dones_in_push (AssignmentLine a ∷ xs) x = dones_in_push xs x
dones_in_push (LineOfDone d ∷ xs) x = ap (λ (t : List DoneLine). d ∷ t) (dones_in_push xs x)

pub assignments_in-push : (front : List GroupLine) (x : GroupLine) (old new : List Assignment) → old ≡ assignments_in front → new ≡ old ++ assignments_in (x ∷ []) → new ≡ assignments_in (front ++ x ∷ [])
assignments_in-push front x old new e f = f ∙ ap (λ (o : List Assignment). o ++ assignments_in (x ∷ [])) e ∙ sym (assignments_in_push front x)

pub dones_in-push : (front : List GroupLine) (x : GroupLine) (old new : List DoneLine) → old ≡ dones_in front → new ≡ old ++ dones_in (x ∷ []) → new ≡ dones_in (front ++ x ∷ [])
dones_in-push front x old new e f = f ∙ ap (λ (o : List DoneLine). o ++ dones_in (x ∷ [])) e ∙ sym (dones_in_push front x)

module _ (names : List Text) where
  pub lines_ok : (ts rest : List Terminal) (front : List GroupLine) (a : List Assignment) (b : List DoneLine) → many pin_set (line_at names) ts ≡ Ok (front, rest) → a ≡ assignments_in front → b ≡ dones_in front → lines_at names ts ≡ Ok ((a, b), rest)
  unfolding lines_at
  lines_ok ts rest front a b e f g =
      mapped_ok lines_from (many pin_set (line_at names)) ts front rest e ∙ ap (λ (x : List Assignment). Ok ((x, dones_in front), rest)) (sym f) ∙ ap (λ (x : List DoneLine). Ok ((a, x), rest)) (sym g)

  pub lines_refused : (ts bad : List Terminal) → many pin_set (line_at names) ts ≡ Err bad → lines_at names ts ≡ Err bad
  unfolding lines_at
  lines_refused ts bad e = rw e refl

  pub lines_fails : (ts : List Terminal) (e : ReadEnd) → Fails e (many pin_set (line_at names) ts) → Fails e (lines_at names ts)
  unfolding lines_at
  lines_fails ts e f = mapped_fails lines_from (many pin_set (line_at names)) ts e f

groups_in_push : (xs : List Wire) (x : Wire) → groups_in (xs ++ x ∷ []) ≡ groups_in xs ++ groups_in (x ∷ [])
groups_in_push [] x = refl
groups_in_push (GroupWire g ∷ xs) x = ap (λ (t : List GroupDef). g ∷ t) (groups_in_push xs x)
groups_in_push (AssignmentWire a ∷ xs) x = groups_in_push xs x

sets_in_push : (xs : List Wire) (x : Wire) → sets_in (xs ++ x ∷ []) ≡ sets_in xs ++ sets_in (x ∷ [])
sets_in_push [] x = refl
sets_in_push (GroupWire g ∷ xs) x = sets_in_push xs x
sets_in_push (AssignmentWire a ∷ xs) x = ap (λ (t : List Assignment). a ∷ t) (sets_in_push xs x)

pub groups_in-push : (front : List Wire) (x : Wire) (old new : List GroupDef) → old ≡ groups_in front → new ≡ old ++ groups_in (x ∷ []) → new ≡ groups_in (front ++ x ∷ [])
groups_in-push front x old new e f = f ∙ ap (λ (o : List GroupDef). o ++ groups_in (x ∷ [])) e ∙ sym (groups_in_push front x)

pub sets_in-push : (front : List Wire) (x : Wire) (old new : List Assignment) → old ≡ sets_in front → new ≡ old ++ sets_in (x ∷ []) → new ≡ sets_in (front ++ x ∷ [])
sets_in-push front x old new e f = f ∙ ap (λ (o : List Assignment). o ++ sets_in (x ∷ [])) e ∙ sym (sets_in_push front x)

module _ (names : List Text) where
  pub wire_list_ok : (ts rest : List Terminal) (front : List Wire) (a : List GroupDef) (b : List Assignment) → many wire_set (wire_at names) ts ≡ Ok (front, rest) → a ≡ groups_in front → b ≡ sets_in front → wire_list_at names ts ≡ Ok ((a, b), rest)
  unfolding wire_list_at
  wire_list_ok ts rest front a b e f g =
      mapped_ok wires_from (many wire_set (wire_at names)) ts front rest e ∙ ap (λ (x : List GroupDef). Ok ((x, sets_in front), rest)) (sym f) ∙ ap (λ (x : List Assignment). Ok ((a, x), rest)) (sym g)

  pub wire_list_refused : (ts bad : List Terminal) → many wire_set (wire_at names) ts ≡ Err bad → wire_list_at names ts ≡ Err bad
  unfolding wire_list_at
  wire_list_refused ts bad e = rw e refl

  pub wire_list_fails : (ts : List Terminal) (e : ReadEnd) → Fails e (many wire_set (wire_at names) ts) → Fails e (wire_list_at names ts)
  unfolding wire_list_at
  wire_list_fails ts e f = mapped_fails wires_from (many wire_set (wire_at names)) ts e f
