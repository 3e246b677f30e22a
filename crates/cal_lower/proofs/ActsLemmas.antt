-- In a run of the answer the rule of each group is true where control lets the group act in the source, and `c$over` shows where it is done.
use Rattle.std.proofs.Common.{◌≡◌, ◌⊎◌, inl, inr, ℕ, zero, suc, ◌<◌, ◌≤◌, ◌^◌, List, [], ◌∷◌, ◌++◌, map, Bool, true, false, not, ◌&&◌, ◌==◌, Option, Some, refl, sym, ap, subst, ◌∙◌, arith}
use Rattle.std.specs.Prelude.{Contains, flat_map, if◌then◌else◌}
use Rattle.std.proofs.lemmas.Bool.{cond-true, cond-false}
use Rattle.std.proofs.lemmas.List.Elements.{Contains-append_left, Contains-append_right}
use Rattle.hw_names.specs.Name.{Text, Path}
use Rattle.hw_prims.specs.Row.{Trace}
use Rattle.net_core.specs.Circuit.{settled}
use Rattle.net_core.specs.Guard.{Negates, holds}
use Rattle.cal_ast.proofs.ListLemmas.{Contains-here, Contains-there, Contains-map, Contains-flat_map}
use Rattle.cal_ast.specs.Actors.{Actor, GroupNamed}
use Rattle.cal_ast.specs.CalRun.{look, cal_circuit, IsStoppedRun}
use Rattle.cal_ast.specs.Holes.{by_rules}
use Rattle.cal_ast.specs.Instances.{component_at}
use Rattle.cal_ast.specs.NoInvoke.{IsPlainDesign}
use Rattle.cal_ast.specs.Plain.{HasPlainTree}
use Rattle.cal_ast.specs.Plan.{Plan, plan_of}
use Rattle.cal_ast.specs.Ports.{is_bare}
use Rattle.cal_ast.specs.Schedule.{view_at, go_at}
use Rattle.cal_ast.specs.Spans.{View}
use Rattle.cal_ast.specs.Tree.{PortName, DoneLine, GroupDef, Component, Design}
use Rattle.cal_walk.specs.Left.{is_over}
use Rattle.cal_walk.specs.Stages.{Progress, progress_at, acts_now, is_done_now, enabled_now, tested_now}
use Rattle.cal_token.proofs.TestLemmas.{and_true}
use Rattle.cal_token.specs.inside.Tokens.{size}
use Rattle.cal_lower.specs.inside.Added.{extended}
use Rattle.cal_lower.specs.inside.Lowered.{acts_guard, acts_wire, done_wire, group_pieces, control_ends, start_guard, instance_pieces, plan_pieces, control_pieces, rules_from}
use Rattle.cal_lower.specs.inside.Parts.{part_ends, part_pieces}
use Rattle.cal_lower.specs.inside.Pieces.{Piece, Wire, Register, piece, acts_name, start_name, busy_name, over_name, shown, is_set, either, both, is_done}
use Rattle.cal_lower.proofs.ControlLemmas.{Bits, AreControl, is_on_row, acts_now-is, over_is, enabled_is, tested_is}
use Rattle.cal_lower.proofs.ExtendedLemmas.{AreNamed, answer}
use Rattle.cal_lower.proofs.GroupActsLemmas.{ShowsDones, done_is, dones_are, acts_guard_is}
use Rattle.cal_lower.proofs.GuardLemmas.{holds_either, holds_both}
use Rattle.cal_lower.proofs.ListLemmas.{Each, each_from, each_right}
use Rattle.cal_lower.proofs.LoweredLemmas.{tokens, tokens_made}
use Rattle.cal_lower.proofs.OffLemmas.{IsUnset, part_off}
use Rattle.cal_lower.proofs.PartLemmas.{shows_bit, tokens_in, IsShown, EachEnabled, plan_ends, plan_steps}
use Rattle.cal_lower.proofs.PieceLemmas.{few_drive, pieces_apart}
use Rattle.cal_lower.proofs.RunKeptLemmas.{ActsAsControl}
use Rattle.cal_lower.proofs.ShownLemmas.{IsAddedPiece, wire_shows, piece_opens, piece_follows, piece_unset, piece_shown}
use Rattle.cal_lower.proofs.TokenLemmas.{tokens_named, piece_added}

-- a value of one bit
bit_value : (x : ℕ) → (x ≡ 0) ⊎ (x ≡ 1) → x ≡ (if x == 1 then 1 else 0)
bit_value x (inl is) = is ∙ sym (ap (λ y. if y == 1 then 1 else 0) is)
bit_value x (inr is) = is ∙ sym (ap (λ y. if y == 1 then 1 else 0) is)

settled_one : (b : Bool) → (settled (if b then 1 ∷ [] else []) ≡ 0) ⊎ (settled (if b then 1 ∷ [] else []) ≡ 1)
settled_one true = inr refl
settled_one false = inl refl

module _ (source : Design) (tree : HasPlainTree source) (plain : IsPlainDesign source) (top : Component) (asked : ℕ) (inputs : Trace) (loads : Text → List ℕ) (height : ℕ)
    (trace : Trace) (stop : Option Text)
    (run : IsStoppedRun (cal_circuit (answer tokens source) (extended tokens top) (by_rules (answer tokens source) (rules_from 0 source))) asked inputs loads height trace stop)
    (path : Path) (c : Component) (at : component_at source top path ≡ Some c) (in_design : Contains source c) (full : is_bare c ≡ false) (few : size (plan_of c) ≤ 2 ^ 64) where
  own : AreNamed tokens c
  own = tokens_named source tree plain c in_design few

  is_added : (p : Piece) → Contains (control_pieces c) p → IsAddedPiece tokens c p
  is_added p has = piece_added source tree plain c in_design few p has

  abbrev plan : Plan
  plan = plan_of c

  abbrev seen : ℕ → PortName → ℕ
  seen t = look path (trace t)

  abbrev view : View
  view = view_at source path c height trace

  abbrev go : ℕ → Bool
  go = go_at path trace

  abbrev sees_done : ℕ → Actor → Bool
  sees_done t actor = view.done actor t

  abbrev bits : Bits
  bits = record {
    start = λ t. shows_bit (seen t) start_name;
    busy = λ t. shows_bit (seen t) busy_name;
    over = λ t. shows_bit (seen t) over_name;
    tokens = λ t. tokens_in (seen t);
    last = λ t. holds (seen t) (control_ends plan);
  }

  -- ---- where pieces stand

  abbrev group_part : List Piece
  group_part = flat_map (group_pieces plan) c.groups

  abbrev start_piece : Piece
  start_piece = piece Wire start_name start_guard

  abbrev busy_piece : Piece
  busy_piece = piece Register busy_name (both (either (is_set start_name) (is_set busy_name)) (Negates (control_ends plan)))

  abbrev over_piece : Piece
  over_piece = piece Register over_name (control_ends plan)

  in_instance : (p : Piece) → Contains (instance_pieces plan) p → Contains (control_pieces c) p
  in_instance p has =
      Contains-append_left (instance_pieces plan ++ group_part) (plan_pieces plan) p (Contains-append_left (instance_pieces plan) group_part p has)

  has_start : Contains (control_pieces c) start_piece
  has_start = in_instance start_piece (Contains-here start_piece (busy_piece ∷ over_piece ∷ []))

  has_busy : Contains (control_pieces c) busy_piece
  has_busy = in_instance busy_piece (Contains-there start_piece (busy_piece ∷ over_piece ∷ []) busy_piece (Contains-here busy_piece (over_piece ∷ [])))

  has_over : Contains (control_pieces c) over_piece
  has_over =
      in_instance over_piece
      (Contains-there start_piece (busy_piece ∷ over_piece ∷ []) over_piece (Contains-there busy_piece (over_piece ∷ []) over_piece (Contains-here over_piece [])))

  in_group : (g : GroupDef) (p : Piece) → Contains c.groups g → Contains (group_pieces plan g) p → Contains (control_pieces c) p
  in_group g p of has =
      Contains-append_left (instance_pieces plan ++ group_part) (plan_pieces plan) p
      (Contains-append_right (instance_pieces plan) group_part p (Contains-flat_map (group_pieces plan) c.groups g p of has))

  has_acts : (g : GroupDef) → Contains c.groups g → Contains (control_pieces c) (acts_wire plan g)
  has_acts g of = in_group g (acts_wire plan g) of (Contains-here (acts_wire plan g) (map done_wire g.dones))

  has_done : (g : GroupDef) (d : DoneLine) → Contains c.groups g → Contains g.dones d → Contains (control_pieces c) (done_wire d)
  has_done g d of has =
      in_group g (done_wire d) of (Contains-there (acts_wire plan g) (map done_wire g.dones) (done_wire d) (Contains-map done_wire g.dones d has))

  -- what each piece does, those of the plan do
  plan_part : (P : Piece → Type 0) → is_over plan ≡ false → Each P (control_pieces c) → Each P (part_pieces 0 plan (is_set start_name))
  plan_part P more all =
      let E : List Piece → Type 0 = λ ps. Each P ps in
      subst E (cond-false (is_over plan) [] (part_pieces 0 plan (is_set start_name)) more)
      (each_right P (instance_pieces plan ++ group_part) (plan_pieces plan) all)

  shown_plan : (t : ℕ) → suc t < height → is_over plan ≡ false → Each (IsShown (seen t) (seen (suc t))) (part_pieces 0 plan (is_set start_name))
  shown_plan t within more =
      plan_part (IsShown (seen t) (seen (suc t))) more
      (each_from (IsShown (seen t) (seen (suc t))) (control_pieces c)
      (λ p has. piece_shown tokens tokens_made source tree plain top asked inputs loads height trace stop run path c at in_design full own p (is_added p has) t within))

  -- ---- the dones of groups

  dones : (t : ℕ) → t < height → ShowsDones source tree plain c in_design path trace t
  dones t within g d of has =
      wire_shows tokens tokens_made source tree plain top asked inputs loads height trace stop run path c at in_design full own (done_wire d) (is_added (done_wire d) (has_done g d of has)) refl t within

  known : (t : ℕ) → t < height → EachEnabled (λ actor. holds (seen t) (is_done actor) ≡ sees_done t actor) plan
  known t within = dones_are source tree plain c in_design path height trace t (dones t within)

  -- ---- control

  are : AreControl plan view go height bits
  are = record {
    idle = λ within. (
      piece_unset tokens tokens_made source tree plain top asked inputs loads height trace stop run path c at in_design full own busy_piece (is_added busy_piece has_busy) within,
      piece_unset tokens tokens_made source tree plain top asked inputs loads height trace stop run path c at in_design full own over_piece (is_added over_piece has_over) within,
    );
    off = λ within more.
        part_off (seen 0) 0 plan (is_set start_name) more
        (plan_part (IsUnset (seen 0)) more
        (each_from (IsUnset (seen 0)) (control_pieces c)
        (λ p has. piece_unset tokens tokens_made source tree plain top asked inputs loads height trace stop run path c at in_design full own p (is_added p has) within)));
    starts = λ t within.
        wire_shows tokens tokens_made source tree plain top asked inputs loads height trace stop run path c at in_design full own start_piece (is_added start_piece has_start) refl t within
        ∙ and_true (holds (seen t) start_guard);
    runs = λ t within.
        piece_shown tokens tokens_made source tree plain top asked inputs loads height trace stop run path c at in_design full own busy_piece (is_added busy_piece has_busy) t within
        ∙ and_true (holds (seen t) (both (either (is_set start_name) (is_set busy_name)) (Negates (control_ends plan))))
        ∙ holds_both (seen t) (either (is_set start_name) (is_set busy_name)) (Negates (control_ends plan))
        ∙ ap (λ x. x && not (holds (seen t) (control_ends plan))) (holds_either (seen t) (is_set start_name) (is_set busy_name));
    is_done = λ t within.
        piece_shown tokens tokens_made source tree plain top asked inputs loads height trace stop run path c at in_design full own over_piece (is_added over_piece has_over) t within
        ∙ and_true (holds (seen t) (control_ends plan));
    at_once = λ t within over. ap (λ g. holds (seen t) g) (cond-true (is_over plan) (is_set start_name) (part_ends 0) over);
    ends = λ t within more.
        let now : t < height = omega arith in
        ap (λ g. holds (seen t) g) (cond-false (is_over plan) (is_set start_name) (part_ends 0) more)
        ∙ plan_ends (seen t) (seen (suc t)) (sees_done t) plan (is_set start_name) more (known t now) (shown_plan t within more);
    steps = λ t within more.
        let now : t < height = omega arith in
        plan_steps (seen t) (seen (suc t)) (sees_done t) plan (is_set start_name) more (known t now) (shown_plan t within more);
  }

  -- `c$over` shows 1 in the done rows, and 0 in the others
  over_bit : (t : ℕ) → t < height → (seen t (shown over_name) ≡ 0) ⊎ (seen t (shown over_name) ≡ 1)
  over_bit zero within = inl (piece_opens tokens tokens_made source tree plain top asked inputs loads height trace stop run path c at in_design full own over_piece (is_added over_piece has_over) refl within)
  over_bit (suc t) within =
      let is : seen (suc t) (shown over_name) ≡ settled (if holds (seen t) (control_ends plan) then 1 ∷ [] else []) =
      piece_follows tokens tokens_made source tree plain top asked inputs loads height trace stop run path c at in_design full own over_piece (is_added over_piece has_over) refl t within in
      elim (settled_one (holds (seen t) (control_ends plan))) [
        | inl none ↦ inl (is ∙ none)
        | inr one ↦ inr (is ∙ one)
      ]

  over_shows : (t : ℕ) → t < height → seen t (shown over_name) ≡ (if is_done_now (progress_at view go plan t) then 1 else 0)
  over_shows t within =
      bit_value (seen t (shown over_name)) (over_bit t within)
      ∙ ap (λ x. if x then 1 else 0) (over_is plan view go height bits are t within)

  -- ---- groups

  -- the wire of a group shows where it acts
  acts_is : (g : GroupDef) → Contains c.groups g → (t : ℕ) → t < height
      → shows_bit (seen t) (acts_name g.name) ≡ acts_now plan (progress_at view go plan t) (GroupNamed g.name) (go t) (view.done (GroupNamed g.name) t)
  acts_is g of t within =
      let actor : Actor = GroupNamed g.name in
      let x : Progress = progress_at view go plan t in
      wire_shows tokens tokens_made source tree plain top asked inputs loads height trace stop run path c at in_design full own (acts_wire plan g)
      (is_added (acts_wire plan g) (has_acts g of)) refl t within
      ∙ and_true (holds (seen t) (acts_guard plan g))
      ∙ acts_guard_is source tree plain c in_design g of (seen t) (is_on_row x (go t)) (tested_now plan x actor) (enabled_now plan x actor) (view.done actor t)
      (enabled_is plan view go height bits are t actor within) (tested_is plan view go height bits are t actor within)
      (λ comb. done_is source tree plain c in_design path height trace t (dones t within) g of comb)
      ∙ sym (acts_now-is plan x actor (go t) (view.done actor t))

  pub control_followed : ActsAsControl tokens source height trace path c
  control_followed = record {
    ruled = acts_is;
    done = over_shows;
    few_drives = λ name pin plain_pin none t within. few_drive (seen t) (control_pieces c) (pieces_apart source tree plain c in_design few) name pin;
  }
