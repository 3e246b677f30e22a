-- A lowered design has plain names where its source and the groups of it have: lowering's own names are made of letters, digits and names of groups.
use Rattle.std.proofs.Common.{◌≡◌, ◌≢◌, ℕ, ◌+◌, ◌^◌, ◌<◌, ◌≤◌, ◌%◌, ◌==◌, List, [], ◌∷◌, ◌++◌, map, Bool, true, false, not, refl, sym, subst, inl, inr, arith}
use Rattle.std.specs.Prelude.{All, Contains, flat_map, codes, decimal, if◌then◌else◌}
use Rattle.std.specs.List.{list_all}
use Rattle.std.proofs.lemmas.Bool.{cases_Bool, cond-true, cond-false}
use Rattle.std.proofs.lemmas.Fmt.{decimal_by_steps, decimal_injective}
use Rattle.std.proofs.lemmas.List.Elements.{All-nil, All-cons, All-append, All-head, All-push, All-tail, All-contains}
use Rattle.hw_names.proofs.NameLemmas.{HasNoDot-from_test}
use Rattle.hw_names.specs.Name.{Text, dot, HasNoDot, IsPlain}
use Rattle.hw_prims.specs.Table.{Pin, pin}
use Rattle.cal_ast.proofs.ItemLemmas.{done_names_known}
use Rattle.cal_ast.proofs.ListLemmas.{place_of, Contains-here, Contains-there}
use Rattle.cal_ast.specs.Naming.{AnyName}
use Rattle.cal_ast.specs.NoInvoke.{IsPlainDesign}
use Rattle.cal_ast.specs.Plain.{IsPlainPin, IsPlainCell, IsPlainComponent, HasPlainTree, IsPlainGroup, AreGroupsPlain, HasPlainGroups}
use Rattle.cal_ast.specs.Plan.{plan_of}
use Rattle.cal_ast.specs.Ports.{is_bare, has_pin, with_pin}
use Rattle.cal_ast.specs.Tree.{CellDef, DoneLine, GroupDef, Component, Design}
use Rattle.cal_token.specs.inside.Tokens.{Going, Starting, Ended, Again, size}
use Rattle.cal_walk.specs.Left.{is_over}
use Rattle.cal_lower.specs.inside.Added.{Additions, extended}
use Rattle.cal_lower.specs.inside.Laws.{LoweringsArePlain}
use Rattle.cal_lower.specs.inside.Lowered.{done_wire, group_pieces, instance_pieces, plan_pieces, control_pieces, HasFewParts}
use Rattle.cal_lower.specs.inside.Parts.{part_pieces}
use Rattle.cal_lower.specs.inside.Pieces.{Piece, piece_cell, done_name, start_name, is_set}
use Rattle.cal_lower.proofs.ExtendedLemmas.{answer, extended_ins, extended_outs, extended_cells, added_cells}
use Rattle.cal_lower.proofs.ListLemmas.{Each, each_append, each_from, each_map, each_flat_map}
use Rattle.cal_lower.proofs.LoweredLemmas.{tokens}
use Rattle.cal_lower.proofs.PlaceLemmas.{Place, OfEnd, OfToken, place_name, number, plan_named}

-- ---- texts

abbrev IsNoDot : ℕ → Type 0
IsNoDot byte = byte ≢ dot

pub decimal_no_dot : (n : ℕ) → n < 2 ^ 64 → HasNoDot (decimal n)
decimal_no_dot n small = decimal_by_steps (λ k digits. HasNoDot digits) one more n small
  where
    one : (k : ℕ) → k < 10 → HasNoDot ((48 + k) ∷ [])
    one k below = All-cons IsNoDot (48 + k) [] (λ same. omega (arith, same)) (All-nil IsNoDot)

    more : (k : ℕ) (digits : List ℕ) → 10 ≤ k → HasNoDot digits → HasNoDot (digits ++ (48 + k % 10) ∷ [])
    more k digits above front = All-push IsNoDot digits (48 + k % 10) front (λ same. omega (arith, same))

abbrev starts_plain : Text → Bool
starts_plain [] = false
starts_plain (c ∷ cs) = list_all (λ byte. not (byte == dot)) (c ∷ cs)

pub plain_after : (front rest : Text) → starts_plain front ≡ true → HasNoDot rest → IsPlain (front ++ rest)
plain_after [] rest e more = absurd (cc)
plain_after (c ∷ cs) rest e more = (λ empty. cc, All-append IsNoDot (c ∷ cs) rest (HasNoDot-from_test (c ∷ cs) e) more)

pub plain_text : (text : Text) → starts_plain text ≡ true → IsPlain text
plain_text [] e = absurd (cc)
plain_text (c ∷ cs) e = (λ empty. cc, HasNoDot-from_test (c ∷ cs) e)

-- ---- pieces

place_plain : (place : Place) → number place < 2 ^ 64 → IsPlain (place_name place)
place_plain (OfEnd k) small = plain_after (codes "c$ends") (decimal k) refl (decimal_no_dot k small)
place_plain (OfToken (Going k)) small = plain_after (codes "c$goes") (decimal k) refl (decimal_no_dot k small)
place_plain (OfToken (Starting k)) small = plain_after (codes "c$next") (decimal k) refl (decimal_no_dot k small)
place_plain (OfToken (Ended k)) small = plain_after (codes "c$past") (decimal k) refl (decimal_no_dot k small)
place_plain (OfToken (Again k)) small = plain_after (codes "c$turn") (decimal k) refl (decimal_no_dot k small)

abbrev HasPlainName : Piece → Type 0
HasPlainName p = IsPlain p.name

pub all_plain : (ps : List Piece) → Each HasPlainName ps → All IsPlainCell (map piece_cell ps)
all_plain [] each = All-nil IsPlainCell
all_plain (p ∷ ps) each = All-cons IsPlainCell (piece_cell p) (map piece_cell ps) each.0 (all_plain ps each.1)

-- ---- additions

plain_with_pin : (name : Text) (pins : List Pin) → IsPlain name → All IsPlainPin pins → All IsPlainPin (with_pin name pins)
plain_with_pin name pins plain all = by (has_pin pins name)
  where
    by : (b : Bool) → All IsPlainPin (if b then pins else pins ++ pin name 1 ∷ [])
    by true = all
    by false = All-push IsPlainPin pins (pin name 1) all plain

plain_by : (b : Bool) (written implied : List Pin) → All IsPlainPin written → All IsPlainPin implied → All IsPlainPin (if b then written else implied)
plain_by true written implied one other = one
plain_by false written implied one other = other

module _ (add : Additions) (c : Component) (added : is_bare c ≡ false → All IsPlainCell (add.cells c)) where
  added_plain : All IsPlainCell (added_cells add c)
  added_plain =
      let A : List CellDef → Type 0 = λ cells. All IsPlainCell cells in
      elim (cases_Bool (is_bare c)) [
        | inl bare ↦ subst A (sym (cond-true (is_bare c) [] (add.cells c) bare)) (All-nil IsPlainCell)
        | inr full ↦ subst A (sym (cond-false (is_bare c) [] (add.cells c) full)) (added full)
      ]

  extended_plain : IsPlainComponent c → IsPlainComponent (extended add c)
  extended_plain is =
      let P : List Pin → Type 0 = λ pins. All IsPlainPin pins in
      record {
        ins = subst P (sym (extended_ins add c))
            (plain_by (is_bare c) c.ins (with_pin (codes "go") c.ins) is.ins (plain_with_pin (codes "go") c.ins (plain_text (codes "go") refl) is.ins));
        outs = subst P (sym (extended_outs add c))
            (plain_by (is_bare c) c.outs (with_pin (codes "done") c.outs) is.outs (plain_with_pin (codes "done") c.outs (plain_text (codes "done") refl) is.outs));
        cells = subst (λ (cells : List CellDef). All IsPlainCell cells) (sym (extended_cells add c)) (All-append IsPlainCell c.cells (added_cells add c) is.cells added_plain);
      }

pub plain_kept : (add : Additions) (source : Design) → HasPlainTree source → ((c : Component) → Contains source c → is_bare c ≡ false → All IsPlainCell (add.cells c))
    → HasPlainTree (answer add source)
plain_kept add [] tree each = All-nil IsPlainComponent
plain_kept add (c ∷ cs) tree each =
    All-cons IsPlainComponent (extended add c) (answer add cs)
    (extended_plain add c (each c (Contains-here c cs)) (All-head IsPlainComponent c cs tree))
    (plain_kept add cs (All-tail IsPlainComponent c cs tree) (λ d has. each d (Contains-there c cs d has)))

-- ---- the lowering to registers of one bit

module _ (source : Design) (plain : IsPlainDesign source) (groups : HasPlainGroups source) (all_few : All HasFewParts source) (c : Component) (in_design : Contains source c) where
  group_plain : (g : GroupDef) → Contains c.groups g → Each HasPlainName (group_pieces (plan_of c) g)
  group_plain g of =
      let n = place_of source c in_design in
      let named : IsPlain g.name = All-contains IsPlainGroup c.groups g (All-contains AreGroupsPlain source c groups in_design) of in
      let done : IsPlain (done_name g.name) = plain_after (codes "c$done$") g.name refl named.1 in (
        plain_after (codes "c$acts$") g.name refl named.1,
        each_map HasPlainName done_wire g.dones (each_from (λ (d : DoneLine). IsPlain (done_name d.group)) g.dones (λ d has.
            let k = place_of g.dones d has in
            subst (λ (name : Text). IsPlain (done_name name)) (sym (done_names_known AnyName source plain.keeps n.0 c n.1 g of k.0 d k.1).group) done)),
      )

  pub pieces_plain : Each HasPlainName (control_pieces c)
  pieces_plain =
      let group_part : List Piece = flat_map (group_pieces (plan_of c)) c.groups in
      let plan_part : List Piece = part_pieces 0 (plan_of c) (is_set start_name) in
      let E : List Piece → Type 0 = λ ps. Each HasPlainName ps in
      let few : size (plan_of c) ≤ 2 ^ 64 = All-contains HasFewParts source c all_few in_design in
      let plan : Each HasPlainName (plan_pieces (plan_of c)) = elim (cases_Bool (is_over (plan_of c))) [
        | inl over ↦ subst E (sym (cond-true (is_over (plan_of c)) [] plan_part over)) tt
        | inr more ↦ subst E (sym (cond-false (is_over (plan_of c)) [] plan_part more))
            (plan_named (2 ^ 64) (λ i j small_i small_j e. decimal_injective i j small_i small_j e) (λ name. IsPlain name) place_plain (plan_of c) (is_set start_name) few)
      ] in
      each_append HasPlainName (instance_pieces (plan_of c) ++ group_part) (plan_pieces (plan_of c))
      (each_append HasPlainName (instance_pieces (plan_of c)) group_part
      (plain_text (codes "c$start") refl, (plain_text (codes "c$busy") refl, (plain_text (codes "c$over") refl, tt)))
      (each_flat_map HasPlainName (group_pieces (plan_of c)) c.groups (each_from (λ (g : GroupDef). Each HasPlainName (group_pieces (plan_of c) g)) c.groups group_plain)))
      plan

pub lowerings_are_plain : LoweringsArePlain
lowerings_are_plain source answer rules tree groups plain is =
    subst (λ (design : Design). HasPlainTree design) (sym is.design)
    (plain_kept tokens source tree (λ c has full. all_plain (control_pieces c) (pieces_plain source plain groups is.few c has)))
