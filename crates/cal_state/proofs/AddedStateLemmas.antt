-- The lowering to states, as cells and assignments that are added: their names are reserved and apart, and which assignments drive each of these cells.
use Rattle.std.proofs.Common.{◌≡◌, ◌≢◌, ◌⊎◌, inl, inr, ℕ, ◌<◌, ◌≤◌, ◌^◌, List, [], ◌∷◌, ◌++◌, map, length, Bool, true, false, ◌&&◌, ◌==◌, Some, None, refl, sym, ap, ap₂, subst, ◌∙◌, arith, append_assoc}
use Rattle.std.specs.Prelude.{Contains, flat_map, bytes_eq, codes, if◌then◌else◌, nat_le}
use Rattle.std.proofs.lemmas.Bool.{cases_Bool, both_ways, and_left, and_right, and_from, cases_eq, cond-true, cond-false, ne_eqb, le-leb}
use Rattle.std.proofs.lemmas.Fmt.{decimal_injective}
use Rattle.std.proofs.lemmas.List.{append-nil}
use Rattle.std.proofs.lemmas.List.Elements.{Contains-append_cases, Contains-append_left, Contains-append_right}
use Rattle.std.proofs.lemmas.Slice.Eq.{bytes_eq-Decides}
use Rattle.hw_names.proofs.NameLemmas.{HasNoDot-from_test}
use Rattle.hw_names.specs.Name.{Text, IsPlain}
use Rattle.hw_bits.specs.declared.bits.TheConstants.{MAX_WIDTH}
use Rattle.hw_prims.specs.Table.{prim_names, prim_of, with_params, is_made}
use Rattle.hw_prims.specs.declared.prim.Primitive.TheVariants.{StdReg}
use Rattle.net_core.specs.Guard.{guard_holds, source_value}
use Rattle.cal_ast.proofs.ListLemmas.{Contains-none, Contains-cases_first, Contains-from_map, Contains-map, Contains-here, Contains-there}
use Rattle.cal_ast.specs.Laws.{local_values}
use Rattle.cal_ast.specs.Naming.{IsReserved}
use Rattle.cal_ast.specs.NoInvoke.{IsPlainDesign}
use Rattle.cal_ast.specs.Plain.{HasPlainTree}
use Rattle.cal_ast.specs.Plan.{Plan, plan_of}
use Rattle.cal_ast.specs.Ports.{is_bare, inputs_in, outputs_in, primitive_of}
use Rattle.cal_ast.specs.Tree.{PortName, port_of, CellDef, Assignment, DoneLine, GroupDef, Absent, Component, Design}
use Rattle.cal_walk.specs.Left.{is_over}
use Rattle.cal_token.specs.inside.Tokens.{size}
use Rattle.cal_lower.specs.inside.Added.{Additions, with_added, extended}
use Rattle.cal_lower.specs.inside.Lowered.{control_pieces, done_set, done_wire, group_pieces, instance_pieces, plan_pieces}
use Rattle.cal_lower.specs.inside.Parts.{part_pieces}
use Rattle.cal_lower.specs.inside.Pieces.{Kind, Wire, Register, Piece, piece_cell, piece_set, enables_piece, piece_sets, is_set, start_name}
use Rattle.cal_lower.proofs.ExtendedLemmas.{AreOfPrimitives, AreNamed, CellsApart, DrivesAdded, answer}
use Rattle.cal_lower.proofs.ListLemmas.{Each, each_append, each_at, each_flat_map, each_from, each_map, each_weaker}
use Rattle.cal_lower.proofs.LocalLemmas.{IsOfOther, local_values-append, local_values-none}
use Rattle.cal_lower.proofs.LoweredLemmas.{piece_made, prim_for}
use Rattle.cal_lower.proofs.PieceLemmas.{driven_alone, few_drive, other_name, pieces_apart, pieces_reserved}
use Rattle.cal_lower.proofs.PlaceLemmas.{Apart, third, is_letter, plan_letters}
use Rattle.cal_lower.proofs.ShownLemmas.{IsAddedPiece}
use Rattle.cal_state.specs.inside.Encoded.{encoded, over_set, thread_sets, wires, with_states}
use Rattle.cal_state.specs.inside.States.{all_next_sets, thread_cell, thread_enable, thread_name, width_of}
use Rattle.cal_state.specs.inside.Threads.{Thread, Place, NoState, IsIn, plan_places, thread_of, threads}
use Rattle.cal_state.proofs.EncodedLemmas.{piece_names, wires_named}
use Rattle.cal_state.proofs.NextStateLemmas.{same_thread}
use Rattle.cal_state.proofs.ThreadLemmas.{InRange, IsOfPlan, PartsApart, of_plan, threads_are}
use Rattle.cal_state.proofs.WidthLemmas.{width_is}

-- wires, and a register for each thread
abbrev pub encoding : Additions
encoding = record {
  cells = λ c. map piece_cell (wires c) ++ map thread_cell (threads (plan_of c));
  sets = λ c. flat_map piece_sets (wires c) ++ thread_sets (plan_of c);
}

pub encoded_is : (c : Component) → encoded c ≡ extended encoding c
encoded_is c = ap (λ (d : Component). if is_bare c then record c { control = Absent } else d) whole
  where
    cells : c.cells ++ map piece_cell (wires c) ++ map thread_cell (threads (plan_of c)) ≡ c.cells ++ encoding.cells c
    cells = append_assoc c.cells (map piece_cell (wires c)) (map thread_cell (threads (plan_of c)))

    sets : c.sets ++ flat_map piece_sets (wires c) ++ thread_sets (plan_of c) ++ done_set ∷ [] ≡ c.sets ++ encoding.sets c ++ done_set ∷ []
    sets = ap (λ (xs : List Assignment). xs ++ done_set ∷ []) (append_assoc c.sets (flat_map piece_sets (wires c)) (thread_sets (plan_of c)))

    whole : with_states c ≡ with_added encoding c
    whole =
        ap₂ (λ (xs : List CellDef) (ys : List Assignment). record c { ins = inputs_in c; outs = outputs_in c; cells = xs; sets = ys; control = Absent }) cells sets

pub design_is : (source : Design) → map encoded source ≡ answer encoding source
design_is [] = refl
design_is (c ∷ cs) = ap₂ (λ (d : Component) (ds : Design). d ∷ ds) (encoded_is c) (design_is cs)

-- ---- primitives

pub register_made : (width : ℕ) → 1 ≤ width → width ≤ 128 → prim_of (codes "std_reg") (width ∷ []) ≡ Some (StdReg width)
unfolding prim_names prim_of with_params is_made
register_made width some few =
    cond-true (nat_le 1 width && nat_le width MAX_WIDTH) (Some (StdReg width)) None
    (and_from (nat_le 1 width) (nat_le width MAX_WIDTH) (le-leb 1 width some) (le-leb width MAX_WIDTH few))

pub thread_made : (thread : Thread) → primitive_of (thread_cell thread) ≡ Some (StdReg (width_of thread))
thread_made thread = let is = width_is thread in register_made (width_of thread) is.some is.few

pub encoding_made : AreOfPrimitives encoding
encoding_made c cell has = elim (Contains-append_cases (map piece_cell (wires c)) (map thread_cell (threads (plan_of c))) cell has) [
  | inl wire ↦
      let p = Contains-from_map piece_cell (wires c) cell wire in
      (prim_for p.0.kind, subst (λ (x : CellDef). primitive_of x ≡ Some (prim_for p.0.kind)) p.2 (piece_made p.0))
  | inr register ↦
      let t = Contains-from_map thread_cell (threads (plan_of c)) cell register in
      (StdReg (width_of t.0), subst (λ (x : CellDef). primitive_of x ≡ Some (StdReg (width_of t.0))) t.2 (thread_made t.0))
]

-- ---- names

abbrev NamesApart : List Text → Type 0
NamesApart [] = Unit {0}
NamesApart (name ∷ names) = Each (λ (other : Text). name ≢ other) names × NamesApart names

each_of_names : (P : Text → Type 0) (ps : List Piece) → Each P (piece_names ps) → Each (λ (p : Piece). P p.name) ps
each_of_names P [] all = tt
each_of_names P (p ∷ ps) all = (all.0, each_of_names P ps all.1)

names_apart : (ps : List Piece) → Apart ps → NamesApart (piece_names ps)
names_apart [] apart = tt
names_apart (p ∷ ps) apart = (each_map (λ (name : Text). p.name ≢ name) (λ (q : Piece). q.name) ps apart.0, names_apart ps apart.1)

apart_of_names : (ps : List Piece) → NamesApart (piece_names ps) → Apart ps
apart_of_names [] apart = tt
apart_of_names (p ∷ ps) apart = (each_of_names (λ (name : Text). p.name ≢ name) ps apart.0, apart_of_names ps apart.1)

-- what holds of the names of the token lowering's pieces holds of those of the wires
each_wire : (c : Component) (P : Text → Type 0) → Each (λ (p : Piece). P p.name) (control_pieces c) → Each (λ (p : Piece). P p.name) (wires c)
each_wire c P all =
    each_of_names P (wires c) (subst (Each P) (sym (wires_named c)) (each_map P (λ (p : Piece). p.name) (control_pieces c) all))

-- the third letter of a thread's name is no other name's
abbrev is_thread : Text → Bool
is_thread name = third name == 102

no_thread_letter : (letter : ℕ) → is_letter letter ≡ true → (letter == 102) ≡ false
no_thread_letter letter is = elim (cases_eq letter 102) [
  | inl same ↦ absurd (both_ways (is_letter letter) (ap is_letter same) is)
  | inr other ↦ ne_eqb letter 102 other
]

module _ (c : Component) (few : size (plan_of c) ≤ 2 ^ 64) where
  abbrev plan : Plan
  plan = plan_of c

  abbrev IsNoThread : Piece → Type 0
  IsNoThread p = is_thread p.name ≡ false

  pub no_thread_pieces : Each IsNoThread (control_pieces c)
  no_thread_pieces =
      let groups : List Piece = flat_map (group_pieces plan) c.groups in
      each_append IsNoThread (instance_pieces plan ++ groups) (plan_pieces plan)
      (each_append IsNoThread (instance_pieces plan) groups (refl, (refl, (refl, tt)))
      (each_flat_map IsNoThread (group_pieces plan) c.groups
      (each_from (λ (g : GroupDef). Each IsNoThread (group_pieces plan g)) c.groups
      (λ g has. (refl, each_map IsNoThread done_wire g.dones (each_from (λ (d : DoneLine). IsNoThread (done_wire d)) g.dones (λ d is. refl)))))))
      (by (is_over plan)
      (each_weaker (λ (p : Piece). is_letter (third p.name) ≡ true) IsNoThread (λ p is. no_thread_letter (third p.name) is) (part_pieces 0 plan (is_set start_name))
      (plan_letters (2 ^ 64) (λ i j one other e. decimal_injective i j one other e) plan (is_set start_name) few)))
    where
      by : (b : Bool) → Each IsNoThread (part_pieces 0 plan (is_set start_name)) → Each IsNoThread (if b then [] else part_pieces 0 plan (is_set start_name))
      by true all = tt
      by false all = all

  no_thread_wires : Each IsNoThread (wires c)
  no_thread_wires = each_wire c (λ name. is_thread name ≡ false) no_thread_pieces

  -- a wire has no thread's name
  pub wire_no_thread : (p : Piece) (thread : Thread) → Contains (wires c) p → p.name ≢ thread_name thread
  wire_no_thread p thread has same =
      both_ways (is_thread p.name) (each_at IsNoThread (wires c) p no_thread_wires has) (ap is_thread same)

  wires_reserved : Each (λ (p : Piece). IsReserved p.name) (wires c)
  wires_reserved = each_wire c (λ name. IsReserved name) (pieces_reserved c few)

  pub small : (thread : Thread) → Contains (threads plan) thread → thread.part < 2 ^ 64
  small thread has =
      let is = each_at (InRange 0 (size plan)) (threads plan) thread (threads_are plan).each has in
      let below : thread.part < size plan = is.1 in
      omega (arith, few, below)

  abbrev CellApart : CellDef → CellDef → Type 0
  CellApart x y = x.name ≢ y.name

  cells_of_wires : (ps : List Piece) → Apart ps → CellsApart (map piece_cell ps)
  cells_of_wires [] apart = tt
  cells_of_wires (p ∷ ps) apart = (each_map (CellApart (piece_cell p)) piece_cell ps apart.0, cells_of_wires ps apart.1)

  cells_of_threads : (ts : List Thread) → Each (λ (t : Thread). t.part < 2 ^ 64) ts → PartsApart ts → CellsApart (map thread_cell ts)
  cells_of_threads [] small' apart = tt
  cells_of_threads (t ∷ ts) small' apart = (
    each_map (CellApart (thread_cell t)) thread_cell ts (others ts small'.1 apart.0),
    cells_of_threads ts small'.1 apart.1,
  )
    where
      others : (us : List Thread) → Each (λ (u : Thread). u.part < 2 ^ 64) us → Each (λ (u : Thread). t.part ≡ u.part → ⊥) us → Each (λ (u : Thread). thread_name t ≢ thread_name u) us
      others [] below differ = tt
      others (u ∷ us) below differ = ((λ e. differ.0 (same_thread t u small'.0 below.0 e)), others us below.1 differ.1)

  cells_append : (xs ys : List CellDef) → CellsApart xs → CellsApart ys → Each (λ (x : CellDef). Each (CellApart x) ys) xs → CellsApart (xs ++ ys)
  cells_append [] ys one other across = other
  cells_append (x ∷ xs) ys one other across = (each_append (CellApart x) xs ys one.0 across.0, cells_append xs ys one.1 other across.1)

  -- ---- what is driven

  plain_in : IsPlain (codes "in")
  plain_in = (λ e. cc, HasNoDot-from_test (codes "in") refl)

  plain_write_en : IsPlain (codes "write_en")
  plain_write_en = (λ e. cc, HasNoDot-from_test (codes "write_en") refl)

  piece_driven : (p : Piece) → IsReserved p.name → Each DrivesAdded (piece_sets p)
  piece_driven p is = by p.kind
    where
      by : (k : Kind) → Each DrivesAdded (piece_set p ∷ enables_piece k p.name)
      by Wire = (record { cell = p.name; pin = codes "in"; drives = refl; reserved = is; plain = plain_in }, tt)
      by Register = (
        record { cell = p.name; pin = codes "in"; drives = refl; reserved = is; plain = plain_in },
        (record { cell = p.name; pin = codes "write_en"; drives = refl; reserved = is; plain = plain_write_en }, tt),
      )

  next_driven : (ps : List Piece) (xs : List Place) → Each DrivesAdded (all_next_sets ps xs)
  next_driven [] xs = tt
  next_driven (p ∷ ps) [] = tt
  next_driven (p ∷ ps) (NoState ∷ xs) = next_driven ps xs
  next_driven (p ∷ ps) (IsIn token state ∷ xs) =
      (record { cell = thread_name state.thread; pin = codes "in"; drives = refl; reserved = refl; plain = plain_in }, next_driven ps xs)

  threads_driven : Each DrivesAdded (thread_sets plan)
  threads_driven = (
    record { cell = thread_name (thread_of 0 plan); pin = codes "in"; drives = refl; reserved = refl; plain = plain_in },
    each_append DrivesAdded (all_next_sets (plan_pieces plan) (plan_places plan)) (map thread_enable (threads plan)) (next_driven (plan_pieces plan) (plan_places plan))
        (each_map DrivesAdded thread_enable (threads plan) (each_from (λ (t : Thread). DrivesAdded (thread_enable t)) (threads plan)
        (λ t has. record { cell = thread_name t; pin = codes "write_en"; drives = refl; reserved = refl; plain = plain_write_en }))),
  )

  each_small : Each (λ (t : Thread). t.part < 2 ^ 64) (threads plan)
  each_small = each_from (λ (t : Thread). t.part < 2 ^ 64) (threads plan) small

  named_of : Apart (wires c) → AreNamed encoding c
  named_of apart = record {
    reserved = each_append (λ (x : CellDef). IsReserved x.name) (map piece_cell (wires c)) (map thread_cell (threads plan))
        (each_map (λ (x : CellDef). IsReserved x.name) piece_cell (wires c) wires_reserved)
        (each_map (λ (x : CellDef). IsReserved x.name) thread_cell (threads plan) (each_from (λ (t : Thread). IsReserved (thread_name t)) (threads plan) (λ t has. refl)));
    apart = cells_append (map piece_cell (wires c)) (map thread_cell (threads plan)) (cells_of_wires (wires c) apart)
        (cells_of_threads (threads plan) each_small (threads_are plan).apart)
        (each_map (λ (x : CellDef). Each (CellApart x) (map thread_cell (threads plan))) piece_cell (wires c)
        (each_from (λ (p : Piece). Each (CellApart (piece_cell p)) (map thread_cell (threads plan))) (wires c) (λ p has.
        each_map (CellApart (piece_cell p)) thread_cell (threads plan) (each_from (λ (t : Thread). p.name ≢ thread_name t) (threads plan) (λ t there. wire_no_thread p t has)))));
    driven = each_append DrivesAdded (flat_map piece_sets (wires c)) (thread_sets plan)
        (each_flat_map DrivesAdded piece_sets (wires c) (each_weaker (λ (p : Piece). IsReserved p.name) (λ (p : Piece). Each DrivesAdded (piece_sets p)) piece_driven (wires c) wires_reserved))
        threads_driven;
  }

  -- ---- which assignments drive a cell

  module _ (see : PortName → ℕ) where
    -- those of threads drive no other cell
    next_other : (name pin : Text) (ps : List Piece) (xs : List Place) → ((t : Thread) → thread_name t ≢ name)
        → Each (IsOfOther see (port_of name pin)) (all_next_sets ps xs)
    next_other name pin [] xs apart = tt
    next_other name pin (p ∷ ps) [] apart = tt
    next_other name pin (p ∷ ps) (NoState ∷ xs) apart = next_other name pin ps xs apart
    next_other name pin (p ∷ ps) (IsIn token state ∷ xs) apart =
        (and_left (bytes_eq (thread_name state.thread) name) (bytes_eq (codes "in") pin) (other_name (thread_name state.thread) name (apart state.thread)), next_other name pin ps xs apart)

    threads_other : (name pin : Text) → ((t : Thread) → thread_name t ≢ name) → local_values see (port_of name pin) (thread_sets plan) ≡ []
    threads_other name pin apart =
        let P : Assignment → Type 0 = IsOfOther see (port_of name pin) in
        local_values-none see (port_of name pin) (thread_sets plan) (
          and_left (bytes_eq (thread_name (thread_of 0 plan)) name) (bytes_eq (codes "in") pin) (other_name (thread_name (thread_of 0 plan)) name (apart (thread_of 0 plan))),
          each_append P (all_next_sets (plan_pieces plan) (plan_places plan)) (map thread_enable (threads plan)) (next_other name pin (plan_pieces plan) (plan_places plan) apart)
              (each_map P thread_enable (threads plan) (each_from (λ (t : Thread). P (thread_enable t)) (threads plan)
              (λ t has. and_left (bytes_eq (thread_name t) name) (bytes_eq (codes "write_en") pin) (other_name (thread_name t) name (apart t))))),
        )

    all_values : (p : PortName) → local_values see p (encoding.sets c) ≡ local_values see p (flat_map piece_sets (wires c)) ++ local_values see p (thread_sets plan)
    all_values p = local_values-append see p (flat_map piece_sets (wires c)) (thread_sets plan)

    -- of a wire, its own alone
    pub wire_alone : Apart (wires c) → (p : Piece) → Contains (wires c) p → (pin : Text)
        → local_values see (port_of p.name pin) (encoding.sets c) ≡ local_values see (port_of p.name pin) (piece_sets p)
    wire_alone apart p has pin =
        all_values (port_of p.name pin)
        ∙ ap₂ (λ (a b : List ℕ). a ++ b) (driven_alone see (wires c) apart p pin has) (threads_other p.name pin (λ t same. wire_no_thread p t has (sym same)))
        ∙ append-nil (local_values see (port_of p.name pin) (piece_sets p))

    -- wires drive no register of a thread
    wires_other : (name pin : Text) → Each (λ (p : Piece). p.name ≢ name) (wires c) → local_values see (port_of name pin) (flat_map piece_sets (wires c)) ≡ []
    wires_other name pin apart =
        let P : Assignment → Type 0 = IsOfOther see (port_of name pin) in
        local_values-none see (port_of name pin) (flat_map piece_sets (wires c))
        (each_flat_map P piece_sets (wires c) (each_weaker (λ (p : Piece). p.name ≢ name) (λ (p : Piece). Each P (piece_sets p)) (λ p is. by p.kind p is) (wires c) apart))
      where
        by : (k : Kind) (p : Piece) → p.name ≢ name → Each (IsOfOther see (port_of name pin)) (piece_set p ∷ enables_piece k p.name)
        by Wire p is = (and_left (bytes_eq p.name name) (bytes_eq (codes "in") pin) (other_name p.name name is), tt)
        by Register p is = (
          and_left (bytes_eq p.name name) (bytes_eq (codes "in") pin) (other_name p.name name is),
          (and_left (bytes_eq p.name name) (bytes_eq (codes "write_en") pin) (other_name p.name name is), tt),
        )

    pub thread_alone : (thread : Thread) (pin : Text)
        → local_values see (port_of (thread_name thread) pin) (encoding.sets c) ≡ local_values see (port_of (thread_name thread) pin) (thread_sets plan)
    thread_alone thread pin =
        all_values (port_of (thread_name thread) pin)
        ∙ ap (λ (values : List ℕ). values ++ local_values see (port_of (thread_name thread) pin) (thread_sets plan))
        (wires_other (thread_name thread) pin (each_from (λ (p : Piece). p.name ≢ thread_name thread) (wires c) (λ p has. wire_no_thread p thread has)))

    -- ---- a pin of a thread's register

    -- what brings states drives its input alone
    next_input : (name pin : Text) (ps : List Piece) (xs : List Place) → bytes_eq (codes "in") pin ≡ false → Each (IsOfOther see (port_of name pin)) (all_next_sets ps xs)
    next_input name pin [] xs other = tt
    next_input name pin (p ∷ ps) [] other = tt
    next_input name pin (p ∷ ps) (NoState ∷ xs) other = next_input name pin ps xs other
    next_input name pin (p ∷ ps) (IsIn token state ∷ xs) other =
        (and_right (bytes_eq (thread_name state.thread) name) (bytes_eq (codes "in") pin) other, next_input name pin ps xs other)

    -- so another pin is driven by the enables alone
    not_input : (name pin : Text) → bytes_eq (codes "in") pin ≡ false
        → local_values see (port_of name pin) (thread_sets plan) ≡ local_values see (port_of name pin) (map thread_enable (threads plan))
    not_input name pin other =
        let first : List Assignment = over_set plan ∷ all_next_sets (plan_pieces plan) (plan_places plan) in
        local_values-append see (port_of name pin) first (map thread_enable (threads plan))
        ∙ ap (λ (values : List ℕ). values ++ local_values see (port_of name pin) (map thread_enable (threads plan)))
        (local_values-none see (port_of name pin) first
        (and_right (bytes_eq (thread_name (thread_of 0 plan)) name) (bytes_eq (codes "in") pin) other, next_input name pin (plan_pieces plan) (plan_places plan) other))

    -- an enable of another thread, and of none of these
    enables_none : (name pin : Text) (ts : List Thread) → Each (λ (t : Thread). thread_name t ≢ name) ts → local_values see (port_of name pin) (map thread_enable ts) ≡ []
    enables_none name pin ts apart =
        local_values-none see (port_of name pin) (map thread_enable ts)
        (each_map (IsOfOther see (port_of name pin)) thread_enable ts
        (each_weaker (λ (t : Thread). thread_name t ≢ name) (λ (t : Thread). IsOfOther see (port_of name pin) (thread_enable t))
        (λ t is. and_left (bytes_eq (thread_name t) name) (bytes_eq (codes "write_en") pin) (other_name (thread_name t) name is)) ts apart))

    names_differ : (t : Thread) (ts : List Thread) → t.part < 2 ^ 64 → Each (λ (u : Thread). u.part < 2 ^ 64) ts → Each (λ (u : Thread). t.part ≡ u.part → ⊥) ts
        → Each (λ (u : Thread). thread_name u ≢ thread_name t) ts
    names_differ t [] one below differ = tt
    names_differ t (u ∷ ts) one below differ = ((λ e. differ.0 (same_thread t u one below.0 (sym e))), names_differ t ts one below.1 differ.1)

    enabled_once : (ts : List Thread) → Each (λ (t : Thread). t.part < 2 ^ 64) ts → PartsApart ts → (thread : Thread) → Contains ts thread
        → local_values see (port_of (thread_name thread) (codes "write_en")) (map thread_enable ts) ≡ 1 ∷ []
    enabled_once [] below apart thread has = absurd (Contains-none thread has)
    enabled_once (t ∷ ts) below apart thread has = elim (Contains-cases_first t ts thread has) [
      | inl same ↦
          let O : Thread → Type 0 = λ x. local_values see (port_of (thread_name x) (codes "write_en")) (map thread_enable (t ∷ ts)) ≡ 1 ∷ [] in
          subst O same (
          ap (λ b. if (b && true) && true then 1 ∷ local_values see (port_of (thread_name t) (codes "write_en")) (map thread_enable ts)
          else local_values see (port_of (thread_name t) (codes "write_en")) (map thread_enable ts)) ((bytes_eq-Decides (thread_name t) (thread_name t)).1 refl)
          ∙ ap (λ (values : List ℕ). 1 ∷ values) (enables_none (thread_name t) (codes "write_en") ts (names_differ t ts below.0 below.1 apart.0)))
      | inr there ↦
          let differs : thread_name t ≢ thread_name thread = λ e.
          each_at (λ (u : Thread). t.part ≡ u.part → ⊥) ts thread apart.0 there (same_thread t thread below.0 (each_at (λ (u : Thread). u.part < 2 ^ 64) ts thread below.1 there) e) in
          ap (λ b. if (b && true) && true then 1 ∷ local_values see (port_of (thread_name thread) (codes "write_en")) (map thread_enable ts)
          else local_values see (port_of (thread_name thread) (codes "write_en")) (map thread_enable ts)) (other_name (thread_name t) (thread_name thread) differs)
          ∙ enabled_once ts below.1 apart.1 thread there
    ]

    -- the register takes its input in every row
    pub thread_enabled : (thread : Thread) → Contains (threads plan) thread
        → local_values see (port_of (thread_name thread) (codes "write_en")) (encoding.sets c) ≡ 1 ∷ []
    thread_enabled thread has =
        thread_alone thread (codes "write_en") ∙ not_input (thread_name thread) (codes "write_en") refl
        ∙ enabled_once (threads plan) each_small (threads_are plan).apart thread has

    -- enables drive a pin once at most
    enables_few : (ts : List Thread) → Each (λ (t : Thread). t.part < 2 ^ 64) ts → PartsApart ts → (name pin : Text) → length (local_values see (port_of name pin) (map thread_enable ts)) ≤ 1
    enables_few [] below apart name pin = omega arith
    enables_few (t ∷ ts) below apart name pin = elim (cases_Bool (bytes_eq (thread_name t) name)) [
      | inl same ↦
          let is : thread_name t ≡ name = (bytes_eq-Decides (thread_name t) name).0 same in
          let rest : local_values see (port_of name pin) (map thread_enable ts) ≡ [] =
          enables_none name pin ts (each_weaker (λ (u : Thread). thread_name u ≢ thread_name t) (λ (u : Thread). thread_name u ≢ name) (λ u differs e. differs (e ∙ sym is)) ts
          (names_differ t ts below.0 below.1 apart.0)) in
          one ((bytes_eq (thread_name t) name && bytes_eq (codes "write_en") pin) && true) (local_values see (port_of name pin) (map thread_enable ts)) rest
      | inr other ↦
          let L : Bool → Type 0 = λ b. length (if (b && bytes_eq (codes "write_en") pin) && true then 1 ∷ local_values see (port_of name pin) (map thread_enable ts)
          else local_values see (port_of name pin) (map thread_enable ts)) ≤ 1 in
          subst L (sym other) (enables_few ts below.1 apart.1 name pin)
    ]
      where
        one : (b : Bool) (rest : List ℕ) → rest ≡ [] → length (if b then 1 ∷ rest else rest) ≤ 1
        one true rest none = let zero = ap (λ (xs : List ℕ). length xs) none in omega (arith, zero)
        one false rest none = let zero = ap (λ (xs : List ℕ). length xs) none in omega (arith, zero)

    -- ---- no port has two drives

    has_name : (name : Text) (ts : List Thread) → ((t : Thread) × Contains ts t × (thread_name t ≡ name)) ⊎ Each (λ (t : Thread). thread_name t ≢ name) ts
    has_name name [] = inr tt
    has_name name (t ∷ ts) = elim (cases_Bool (bytes_eq (thread_name t) name)) [
      | inl same ↦ inl (t, Contains-here t ts, (bytes_eq-Decides (thread_name t) name).0 same)
      | inr other ↦ elim (has_name name ts) [
        | inl (u, there, is) ↦ inl (u, Contains-there t ts u there, is)
        | inr none ↦ inr ((λ e. both_ways (bytes_eq (thread_name t) name) other ((bytes_eq-Decides (thread_name t) name).1 e)), none)
      ]
    ]

    -- where the inputs of the threads' registers have one at most
    pub few_drives : Apart (wires c) → ((thread : Thread) → Contains (threads plan) thread → length (local_values see (port_of (thread_name thread) (codes "in")) (thread_sets plan)) ≤ 1)
        → (name pin : Text) → length (local_values see (port_of name pin) (encoding.sets c)) ≤ 1
    few_drives apart inputs name pin = elim (has_name name (threads plan)) [
      | inl (thread, has, is) ↦
          let L : Text → Type 0 = λ x. length (local_values see (port_of x pin) (encoding.sets c)) ≤ 1 in
          subst L is (of_thread thread has)
      | inr none ↦
          let L : List ℕ → Type 0 = λ values. length values ≤ 1 in
          let rest : local_values see (port_of name pin) (thread_sets plan) ≡ [] = others none in
          subst L (sym (all_values (port_of name pin) ∙ ap (λ (values : List ℕ). local_values see (port_of name pin) (flat_map piece_sets (wires c)) ++ values) rest
          ∙ append-nil (local_values see (port_of name pin) (flat_map piece_sets (wires c))))) (few_drive see (wires c) apart name pin)
    ]
      where
        of_thread : (thread : Thread) → Contains (threads plan) thread → length (local_values see (port_of (thread_name thread) pin) (encoding.sets c)) ≤ 1
        of_thread thread has =
            let L : List ℕ → Type 0 = λ values. length values ≤ 1 in
            elim (cases_Bool (bytes_eq (codes "in") pin)) [
              | inl same ↦
                  let M : Text → Type 0 = λ x. length (local_values see (port_of (thread_name thread) x) (encoding.sets c)) ≤ 1 in
                  subst M ((bytes_eq-Decides (codes "in") pin).0 same) (subst L (sym (thread_alone thread (codes "in"))) (inputs thread has))
              | inr other ↦
                  subst L (sym (thread_alone thread pin ∙ not_input (thread_name thread) pin other)) (enables_few (threads plan) each_small (threads_are plan).apart (thread_name thread) pin)
            ]

        -- each place is of a thread of the plan
        next_none : (ps : List Piece) (xs : List Place) → Each (IsOfPlan plan) xs → Each (λ (t : Thread). thread_name t ≢ name) (threads plan)
            → Each (IsOfOther see (port_of name pin)) (all_next_sets ps xs)
        next_none [] xs of none = tt
        next_none (p ∷ ps) [] of none = tt
        next_none (p ∷ ps) (NoState ∷ xs) of none = next_none ps xs of.1 none
        next_none (p ∷ ps) (IsIn token state ∷ xs) of none = (
          and_left (bytes_eq (thread_name state.thread) name) (bytes_eq (codes "in") pin)
              (other_name (thread_name state.thread) name (each_at (λ (t : Thread). thread_name t ≢ name) (threads plan) state.thread none of.0.among)),
          next_none ps xs of.1 none,
        )

        others : Each (λ (t : Thread). thread_name t ≢ name) (threads plan) → local_values see (port_of name pin) (thread_sets plan) ≡ []
        others none =
            let first : List Assignment = all_next_sets (plan_pieces plan) (plan_places plan) in
            let rest : local_values see (port_of name pin) (first ++ map thread_enable (threads plan)) ≡ [] =
            local_values-append see (port_of name pin) first (map thread_enable (threads plan))
            ∙ ap₂ (λ (a b : List ℕ). a ++ b)
            (local_values-none see (port_of name pin) first (next_none (plan_pieces plan) (plan_places plan) (of_plan plan) none)) (enables_none name pin (threads plan) none) in
            cond-false ((bytes_eq (thread_name (thread_of 0 plan)) name && bytes_eq (codes "in") pin) && guard_holds see (over_set plan).guard)
            (source_value see (over_set plan).src ∷ local_values see (port_of name pin) (first ++ map thread_enable (threads plan)))
            (local_values see (port_of name pin) (first ++ map thread_enable (threads plan)))
            (and_left (bytes_eq (thread_name (thread_of 0 plan)) name && bytes_eq (codes "in") pin) (guard_holds see (over_set plan).guard)
            (and_left (bytes_eq (thread_name (thread_of 0 plan)) name) (bytes_eq (codes "in") pin) (other_name (thread_name (thread_of 0 plan)) name none.0)))
            ∙ rest

-- ---- of a plain design

module _ (source : Design) (tree : HasPlainTree source) (plain : IsPlainDesign source) (c : Component) (in_design : Contains source c) (few : size (plan_of c) ≤ 2 ^ 64) where
  pub wires_apart : Apart (wires c)
  wires_apart = apart_of_names (wires c) (subst NamesApart (sym (wires_named c)) (names_apart (control_pieces c) (pieces_apart source tree plain c in_design few)))

  pub encoding_named : AreNamed encoding c
  encoding_named = named_of c few wires_apart

  pub wire_added : (p : Piece) → Contains (wires c) p → IsAddedPiece encoding c p
  wire_added p has = record {
    has = Contains-append_left (map piece_cell (wires c)) (map thread_cell (threads (plan_of c))) (piece_cell p) (Contains-map piece_cell (wires c) p has);
    alone = λ see pin. wire_alone c few see wires_apart p has pin;
  }

  pub thread_added : (thread : Thread) → Contains (threads (plan_of c)) thread → Contains (encoding.cells c) (thread_cell thread)
  thread_added thread has =
      Contains-append_right (map piece_cell (wires c)) (map thread_cell (threads (plan_of c))) (thread_cell thread) (Contains-map thread_cell (threads (plan_of c)) thread has)
