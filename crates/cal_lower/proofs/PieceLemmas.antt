-- The pieces of a component have names that are apart and reserved, so that each is found by its name, and is driven by its own assignments alone.
use Rattle.std.proofs.Common.{◌≡◌, ◌≢◌, ◌⊎◌, inl, inr, ℕ, ◌<◌, ◌≤◌, ◌^◌, List, [], ◌∷◌, ◌++◌, map, length, Bool, true, false, ◌&&◌, ◌||◌, ◌==◌, Some, refl, sym, ap, subst, ◌∙◌, arith}
use Rattle.std.specs.Prelude.{Contains, flat_map, bytes_eq, codes, decimal, if◌then◌else◌}
use Rattle.std.proofs.lemmas.Bool.{cases_Bool, both_ways, and_left, and_parts, cond-true, cond-false}
use Rattle.std.proofs.lemmas.Fmt.{decimal_injective}
use Rattle.std.proofs.lemmas.List.{append-nil}
use Rattle.std.proofs.lemmas.Slice.Eq.{bytes_eq-Decides}
use Rattle.hw_names.specs.Name.{Text}
use Rattle.net_core.specs.Guard.{guard_holds, source_value}
use Rattle.cal_ast.proofs.ListLemmas.{Contains-none, Contains-cases_first}
use Rattle.cal_ast.specs.Laws.{local_values}
use Rattle.cal_ast.specs.Naming.{IsReserved}
use Rattle.cal_ast.specs.NoInvoke.{IsPlainDesign}
use Rattle.cal_ast.specs.Plain.{HasPlainTree}
use Rattle.cal_ast.specs.Plan.{Plan, plan_of}
use Rattle.cal_ast.specs.Ports.{cell_named}
use Rattle.cal_ast.specs.Tree.{PortName, port_of, DoneLine, GroupDef, Component, Design}
use Rattle.cal_walk.specs.Left.{is_over}
use Rattle.cal_token.specs.inside.Tokens.{size}
use Rattle.cal_lower.specs.inside.Lowered.{acts_wire, done_wire, group_pieces, instance_pieces, plan_pieces, control_pieces}
use Rattle.cal_lower.specs.inside.Parts.{part_pieces}
use Rattle.cal_lower.specs.inside.Pieces.{Kind, Wire, Register, Piece, piece_cell, piece_set, enables_piece, piece_sets, acts_name, done_name, start_name, is_set}
use Rattle.cal_lower.proofs.ListLemmas.{Each, each_append, each_weaker, each_from, each_at, each_flat_map, each_both}
use Rattle.cal_lower.proofs.LocalLemmas.{IsOfOther, local_values-append, local_values-none, local_values-one}
use Rattle.cal_lower.proofs.PlaceLemmas.{Apart, apart_append, third, is_letter, plan_apart, plan_letters, plan_reserved}
use Rattle.cal_lower.proofs.SourceLemmas.{GroupsApart, groups_apart, dones_of}

-- ---- names of several kinds

-- names that a test tells apart
across : (f : Text → Bool) (ps qs : List Piece) → Each (λ (p : Piece). f p.name ≡ false) ps → Each (λ (q : Piece). f q.name ≡ true) qs
    → Each (λ (p : Piece). Each (λ (q : Piece). p.name ≢ q.name) qs) ps
across f ps qs one other =
    each_weaker (λ (p : Piece). f p.name ≡ false) (λ (p : Piece). Each (λ (q : Piece). p.name ≢ q.name) qs)
    (λ p is. each_weaker (λ (q : Piece). f q.name ≡ true) (λ (q : Piece). p.name ≢ q.name) (λ q there same. both_ways (f q.name) (sym (ap f same) ∙ is) there) qs other)
    ps one

abbrev group_letter : ℕ → Bool
group_letter letter = (letter == 97) || (letter == 100)

abbrev is_group_name : Text → Bool
is_group_name name = group_letter (third name)

abbrev is_plan_name : Text → Bool
is_plan_name name = is_letter (third name)

-- ---- the pieces of groups

abbrev after_seven : Text → Text
after_seven (a ∷ b ∷ c ∷ d ∷ e ∷ f ∷ g ∷ rest) = rest
after_seven name = []

abbrev IsOfGroup : Text → Piece → Type 0
IsOfGroup name p = (p.name ≡ acts_name name) ⊎ (p.name ≡ done_name name)

letters_differ : (m n : ℕ) → m ≡ 97 → n ≡ 100 → m ≡ n → ⊥
letters_differ m n first other same = omega (arith, first, other, same)

acts_or_done : (a b : Text) → acts_name a ≡ done_name b → ⊥
acts_or_done a b e = letters_differ (third (acts_name a)) (third (done_name b)) refl refl (ap third e)

group_names_apart : (a b x y : Text) → a ≢ b → (x ≡ acts_name a) ⊎ (x ≡ done_name a) → (y ≡ acts_name b) ⊎ (y ≡ done_name b) → x ≢ y
group_names_apart a b x y apart (inl is) (inl other) same =
    let e : acts_name a ≡ acts_name b = sym is ∙ same ∙ other in apart (ap after_seven e)
group_names_apart a b x y apart (inl is) (inr other) same = acts_or_done a b (sym is ∙ same ∙ other)
group_names_apart a b x y apart (inr is) (inl other) same = acts_or_done b a (sym other ∙ sym same ∙ is)
group_names_apart a b x y apart (inr is) (inr other) same =
    let e : done_name a ≡ done_name b = sym is ∙ same ∙ other in apart (ap after_seven e)

module _ (plan : Plan) where
  record AreOfGroup (g : GroupDef) : Type 0 where
    each : Each (IsOfGroup g.name) (group_pieces plan g)
    apart : Apart (group_pieces plan g)

  groups_are_apart : (gs : List GroupDef) → Each AreOfGroup gs → GroupsApart gs → Apart (flat_map (group_pieces plan) gs)
  groups_are_apart [] all apart = tt
  groups_are_apart (g ∷ gs) all apart =
      let both : Each (λ (h : GroupDef). AreOfGroup h × (g.name ≢ h.name)) gs = each_both AreOfGroup (λ (h : GroupDef). g.name ≢ h.name) gs all.1 apart.0 in
      apart_append (group_pieces plan g) (flat_map (group_pieces plan) gs) all.0.apart (groups_are_apart gs all.1 apart.1)
      (each_weaker (IsOfGroup g.name) (λ (p : Piece). Each (λ (q : Piece). p.name ≢ q.name) (flat_map (group_pieces plan) gs))
      (λ p is. each_flat_map (λ (q : Piece). p.name ≢ q.name) (group_pieces plan) gs
      (each_weaker (λ (h : GroupDef). AreOfGroup h × (g.name ≢ h.name)) (λ (h : GroupDef). Each (λ (q : Piece). p.name ≢ q.name) (group_pieces plan h))
      (λ h there. each_weaker (IsOfGroup h.name) (λ (q : Piece). p.name ≢ q.name)
      (λ q of. group_names_apart g.name h.name p.name q.name there.1 is of) (group_pieces plan h) there.0.each) gs both))
      (group_pieces plan g) all.0.each)

  dones_are : (P : Text → Type 0) (ds : List DoneLine) → ((name : Text) → P (done_name name)) → Each (λ (p : Piece). P p.name) (map done_wire ds)
  dones_are P [] f = tt
  dones_are P (d ∷ ds) f = (f d.group, dones_are P ds f)

  groups_are : (P : Text → Type 0) (gs : List GroupDef) → ((name : Text) → P (acts_name name)) → ((name : Text) → P (done_name name))
      → Each (λ (p : Piece). P p.name) (flat_map (group_pieces plan) gs)
  groups_are P [] f h = tt
  groups_are P (g ∷ gs) f h =
      each_append (λ (p : Piece). P p.name) (group_pieces plan g) (flat_map (group_pieces plan) gs) (f g.name, dones_are P g.dones h) (groups_are P gs f h)

-- ---- what drives a piece

pub same_name : (name : Text) → bytes_eq name name ≡ true
same_name name = (bytes_eq-Decides name name).1 refl

pub other_name : (name other : Text) → name ≢ other → bytes_eq name other ≡ false
other_name name other apart = by (bytes_eq name other) refl
  where
    by : (b : Bool) → bytes_eq name other ≡ b → bytes_eq name other ≡ false
    by true e = absurd (apart ((bytes_eq-Decides name other).0 e))
    by false e = e

-- what its own assignment gives it
abbrev pub piece_values : (PortName → ℕ) → Piece → List ℕ
piece_values see p = if guard_holds see p.guard then source_value see p.src ∷ [] else []

module _ (see : PortName → ℕ) where
  pub in_values : (kind : Kind) (p : Piece) → local_values see (port_of p.name (codes "in")) (piece_set p ∷ enables_piece kind p.name) ≡ piece_values see p
  in_values Wire p = let same = same_name p.name in rw same refl
  in_values Register p = let same = same_name p.name in rw same refl

  pub enable_values : (p : Piece) → local_values see (port_of p.name (codes "write_en")) (piece_set p ∷ enables_piece Register p.name) ≡ 1 ∷ []
  enable_values p = let same = same_name p.name in rw same refl

  -- pieces of other names drive nothing of it
  other_piece : (kind : Kind) (p : Piece) (name pin : Text) → p.name ≢ name → Each (IsOfOther see (port_of name pin)) (piece_set p ∷ enables_piece kind p.name)
  other_piece Wire p name pin apart = (and_left (bytes_eq p.name name) (bytes_eq (codes "in") pin) (other_name p.name name apart), tt)
  other_piece Register p name pin apart = (
    and_left (bytes_eq p.name name) (bytes_eq (codes "in") pin) (other_name p.name name apart),
    (and_left (bytes_eq p.name name) (bytes_eq (codes "write_en") pin) (other_name p.name name apart), tt),
  )

  others_drive_nothing : (ps : List Piece) (name pin : Text) → Each (λ (p : Piece). p.name ≢ name) ps → local_values see (port_of name pin) (flat_map piece_sets ps) ≡ []
  others_drive_nothing ps name pin apart =
      local_values-none see (port_of name pin) (flat_map piece_sets ps)
      (each_flat_map (IsOfOther see (port_of name pin)) piece_sets ps
      (each_weaker (λ (p : Piece). p.name ≢ name) (λ (p : Piece). Each (IsOfOther see (port_of name pin)) (piece_sets p)) (λ p is. other_piece p.kind p name pin is) ps apart))

  -- a piece is driven by its own assignments alone
  pub driven_alone : (ps : List Piece) → Apart ps → (p : Piece) (pin : Text) → Contains ps p
      → local_values see (port_of p.name pin) (flat_map piece_sets ps) ≡ local_values see (port_of p.name pin) (piece_sets p)
  driven_alone [] apart p pin has = absurd (Contains-none p has)
  driven_alone (q ∷ qs) apart p pin has =
      let parts = local_values-append see (port_of p.name pin) (piece_sets q) (flat_map piece_sets qs) in
      elim (Contains-cases_first q qs p has) [
        | inl same ↦
            let rest : local_values see (port_of p.name pin) (flat_map piece_sets qs) ≡ [] =
            others_drive_nothing qs p.name pin
            (each_weaker (λ (x : Piece). q.name ≢ x.name) (λ (x : Piece). x.name ≢ p.name) (λ x is e. is (ap (λ (y : Piece). y.name) same ∙ sym e)) qs apart.0) in
            parts ∙ ap (λ (values : List ℕ). local_values see (port_of p.name pin) (piece_sets q) ++ values) rest
            ∙ append-nil (local_values see (port_of p.name pin) (piece_sets q)) ∙ ap (λ (x : Piece). local_values see (port_of p.name pin) (piece_sets x)) same
        | inr there ↦
            let first : local_values see (port_of p.name pin) (piece_sets q) ≡ [] =
            local_values-none see (port_of p.name pin) (piece_sets q) (other_piece q.kind q p.name pin (each_at (λ (x : Piece). q.name ≢ x.name) qs p apart.0 there)) in
            parts ∙ ap (λ (values : List ℕ). values ++ local_values see (port_of p.name pin) (flat_map piece_sets qs)) first ∙ driven_alone qs apart.1 p pin there
      ]

  -- of two assignments of different pins one drives it at most
  short : (a b : Bool) (x y : ℕ) → (a ≡ true → b ≡ true → ⊥) → length (if a then x ∷ (if b then y ∷ [] else []) else (if b then y ∷ [] else [])) ≤ 1
  short true true x y none = absurd (none refl refl)
  short true false x y none = omega arith
  short false true x y none = omega arith
  short false false x y none = omega arith

  own_few : (kind : Kind) (p : Piece) (name pin : Text) → length (local_values see (port_of name pin) (piece_set p ∷ enables_piece kind p.name)) ≤ 1
  own_few Wire p name pin = local_values-one see (port_of name pin) (piece_set p)
  own_few Register p name pin =
      short ((bytes_eq p.name name && bytes_eq (codes "in") pin) && guard_holds see p.guard) ((bytes_eq p.name name && bytes_eq (codes "write_en") pin) && true)
      (source_value see p.src) 1 (λ one other.
      let a = and_parts (bytes_eq p.name name && bytes_eq (codes "in") pin) (guard_holds see p.guard) one in
      let b = and_parts (bytes_eq p.name name && bytes_eq (codes "write_en") pin) true other in
      let first : codes "in" ≡ pin = (bytes_eq-Decides (codes "in") pin).0 (and_parts (bytes_eq p.name name) (bytes_eq (codes "in") pin) a.0).1 in
      let second : codes "write_en" ≡ pin = (bytes_eq-Decides (codes "write_en") pin).0 (and_parts (bytes_eq p.name name) (bytes_eq (codes "write_en") pin) b.0).1 in
      let bad : codes "in" ≡ codes "write_en" = first ∙ sym second in
      cc)

  -- no port of a cell has two drives by pieces
  pub few_drive : (ps : List Piece) → Apart ps → (name pin : Text) → length (local_values see (port_of name pin) (flat_map piece_sets ps)) ≤ 1
  few_drive [] apart name pin = omega arith
  few_drive (q ∷ qs) apart name pin =
      let L : List ℕ → Type 0 = λ values. length values ≤ 1 in
      let first : List ℕ = local_values see (port_of name pin) (piece_sets q) in
      let rest : List ℕ = local_values see (port_of name pin) (flat_map piece_sets qs) in
      let parts : local_values see (port_of name pin) (flat_map piece_sets (q ∷ qs)) ≡ first ++ rest =
      local_values-append see (port_of name pin) (piece_sets q) (flat_map piece_sets qs) in
      elim (cases_Bool (bytes_eq q.name name)) [
        | inl same ↦
            let is : q.name ≡ name = (bytes_eq-Decides q.name name).0 same in
            let none : rest ≡ [] =
            others_drive_nothing qs name pin (each_weaker (λ (x : Piece). q.name ≢ x.name) (λ (x : Piece). x.name ≢ name) (λ x apart' e. apart' (is ∙ sym e)) qs apart.0) in
            subst L (sym (parts ∙ ap (λ (values : List ℕ). first ++ values) none ∙ append-nil first)) (own_few q.kind q name pin)
        | inr other ↦
            let differ : q.name ≢ name = λ e. both_ways (bytes_eq q.name name) other ((bytes_eq-Decides q.name name).1 e) in
            let none : first ≡ [] = local_values-none see (port_of name pin) (piece_sets q) (other_piece q.kind q name pin differ) in
            subst L (sym (parts ∙ ap (λ (values : List ℕ). values ++ rest) none)) (few_drive qs apart.1 name pin)
      ]

-- a piece is found by its name
pub piece_found : (ps : List Piece) → Apart ps → (p : Piece) → Contains ps p → cell_named (map piece_cell ps) p.name ≡ Some (piece_cell p)
piece_found [] apart p has = absurd (Contains-none p has)
piece_found (q ∷ qs) apart p has = elim (Contains-cases_first q qs p has) [
  | inl same ↦
      cond-true (bytes_eq q.name p.name) (Some (piece_cell q)) (cell_named (map piece_cell qs) p.name) ((bytes_eq-Decides q.name p.name).1 (ap (λ (x : Piece). x.name) same))
      ∙ ap (λ (x : Piece). Some (piece_cell x)) same
  | inr there ↦
      cond-false (bytes_eq q.name p.name) (Some (piece_cell q)) (cell_named (map piece_cell qs) p.name)
      (other_name q.name p.name (each_at (λ (x : Piece). q.name ≢ x.name) qs p apart.0 there))
      ∙ piece_found qs apart.1 p there
]

-- ---- the pieces of a component

module _ (c : Component) (few : size (plan_of c) ≤ 2 ^ 64) where
  abbrev groups_part : List Piece
  groups_part = flat_map (group_pieces (plan_of c)) c.groups

  plan_part_is : (P : List Piece → Type 0) → P [] → P (part_pieces 0 (plan_of c) (is_set start_name)) → P (plan_pieces (plan_of c))
  plan_part_is P none some = elim (cases_Bool (is_over (plan_of c))) [
    | inl over ↦ subst P (sym (cond-true (is_over (plan_of c)) [] (part_pieces 0 (plan_of c) (is_set start_name)) over)) none
    | inr more ↦ subst P (sym (cond-false (is_over (plan_of c)) [] (part_pieces 0 (plan_of c) (is_set start_name)) more)) some
  ]

  injective : (i j : ℕ) → i < 2 ^ 64 → j < 2 ^ 64 → decimal i ≡ decimal j → i ≡ j
  injective i j small_i small_j e = decimal_injective i j small_i small_j e

  plan_part_apart : Apart (plan_pieces (plan_of c))
  plan_part_apart = plan_part_is (λ ps. Apart ps) tt (plan_apart (2 ^ 64) injective (plan_of c) (is_set start_name) few)

  plan_part_letters : Each (λ (p : Piece). is_plan_name p.name ≡ true) (plan_pieces (plan_of c))
  plan_part_letters =
      plan_part_is (λ ps. Each (λ (p : Piece). is_plan_name p.name ≡ true) ps) tt (plan_letters (2 ^ 64) injective (plan_of c) (is_set start_name) few)

  pub pieces_reserved : Each (λ (p : Piece). IsReserved p.name) (control_pieces c)
  pieces_reserved =
      each_append (λ (p : Piece). IsReserved p.name) (instance_pieces (plan_of c) ++ groups_part) (plan_pieces (plan_of c))
      (each_append (λ (p : Piece). IsReserved p.name) (instance_pieces (plan_of c)) groups_part (refl, (refl, (refl, tt)))
      (groups_are (plan_of c) (λ name. IsReserved name) c.groups (λ name. refl) (λ name. refl)))
      (plan_part_is (λ ps. Each (λ (p : Piece). IsReserved p.name) ps) tt (plan_reserved (2 ^ 64) injective (plan_of c) (is_set start_name) few))

  instance_apart : Apart (instance_pieces (plan_of c))
  instance_apart = (
    (λ e. let bad : 115 ≡ 98 = ap third e in omega arith, (λ e. let bad : 115 ≡ 111 = ap third e in omega arith, tt)),
    ((λ e. let bad : 98 ≡ 111 = ap third e in omega arith, tt), (tt, tt)),
  )

  apart_of_groups : GroupsApart c.groups → Each (AreOfGroup (plan_of c)) c.groups → Apart (control_pieces c)
  apart_of_groups groups own =
      let first : Apart (instance_pieces (plan_of c) ++ groups_part) =
      apart_append (instance_pieces (plan_of c)) groups_part instance_apart (groups_are_apart (plan_of c) c.groups own groups)
      (across is_group_name (instance_pieces (plan_of c)) groups_part (refl, (refl, (refl, tt)))
      (groups_are (plan_of c) (λ name. is_group_name name ≡ true) c.groups (λ name. refl) (λ name. refl))) in
      apart_append (instance_pieces (plan_of c) ++ groups_part) (plan_pieces (plan_of c)) first plan_part_apart
      (across is_plan_name (instance_pieces (plan_of c) ++ groups_part) (plan_pieces (plan_of c))
      (each_append (λ (p : Piece). is_plan_name p.name ≡ false) (instance_pieces (plan_of c)) groups_part (refl, (refl, (refl, tt)))
      (groups_are (plan_of c) (λ name. is_plan_name name ≡ false) c.groups (λ name. refl) (λ name. refl)))
      plan_part_letters)

module _ (source : Design) (tree : HasPlainTree source) (plain : IsPlainDesign source) (c : Component) (in_design : Contains source c) (few : size (plan_of c) ≤ 2 ^ 64) where
  of_group : (g : GroupDef) → Contains c.groups g → AreOfGroup (plan_of c) g
  of_group g has =
      let P : List DoneLine → Type 0 = λ ds. Each (IsOfGroup g.name) (acts_wire (plan_of c) g ∷ map done_wire ds) in
      let Q : List DoneLine → Type 0 = λ ds. Apart (acts_wire (plan_of c) g ∷ map done_wire ds) in
      elim (dones_of source tree plain c in_design g has) [
        | inl none ↦ record { each = subst P (sym none) (inl refl, tt); apart = subst Q (sym none) (tt, tt) }
        | inr one ↦ record {
          each = subst P (sym one.only) (inl refl, (inr (ap done_name one.of), tt));
          apart = subst Q (sym one.only) ((acts_or_done g.name one.line.group, tt), (tt, tt));
        }
      ]

  pub pieces_apart : Apart (control_pieces c)
  pieces_apart = apart_of_groups c few (groups_apart source tree plain c in_design) (each_from (AreOfGroup (plan_of c)) c.groups of_group)
