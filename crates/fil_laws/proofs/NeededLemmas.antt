-- F10 to F12 hold exactly if legal transactions hold nothing twice.
use Rattle.std.proofs.Common.{◌≡◌, ℕ, zero, suc, ◌+◌, ◌-◌, ◌<◌, ◌≤◌, List, [], ◌∷◌, ◌++◌, flat_map, take, drop, get_or, slice_get, Contains, Option, Some, None, inl, inr, refl, sym, ap, subst, ◌∙◌, arith}
use Rattle.std.specs.Option.{IfSome, option_and_then}
use Rattle.std.specs.Prelude.{AllPairs, max}
use Rattle.std.proofs.lemmas.Bool.{cases_lt}
use Rattle.std.proofs.lemmas.List.{length-take}
use Rattle.std.proofs.lemmas.List.Elements.{All-append, All-cons, All-head, All-nil, All-tail}
use Rattle.std.proofs.lemmas.Option.{get_or_from_slice_get, slice_get_within}
use Rattle.hw_names.specs.Name.{Text, AreDistinct}
use Rattle.fil_ast.proofs.HoldLemmas.{in_flat}
use Rattle.fil_ast.proofs.UseLemmas.{parts_of}
use Rattle.fil_ast.specs.Holds.{Hold, NeverMeet, holds_of}
use Rattle.fil_ast.specs.Items.{Item, TheSignature, TheStatement, IsItem, scope_after}
use Rattle.fil_ast.specs.Naming.{event_names, instance_names}
use Rattle.fil_ast.specs.Rules.{Rule, F1, F10, Keeps, KeepsComponent, KeepsRules, OfInvocation}
use Rattle.fil_ast.specs.Scope.{Scope, Instance, Invocation, instance_named, instance_signature, instances_at, invocations_at, signature_in}
use Rattle.fil_ast.specs.Sharing.{IsUseOf}
use Rattle.fil_ast.specs.Signature.{Signature}
use Rattle.fil_ast.specs.Timeline.{KeepsDelays, Use}
use Rattle.fil_ast.specs.Tree.{Component, Design, Event, Statement, New, Call, Both, Connect}
use Rattle.fil_ast.specs.Typing.{HasShape}
use Rattle.fil_ast.specs.Wires.{whole_scope}
use Rattle.fil_share.specs.Instances.{signature_of}
use Rattle.fil_share.proofs.ListLemmas.{Contains-at, slice_get-take}
use Rattle.fil_share.proofs.OwnLemmas.{KeepsNames, cut_before, cut_with, find_last, made_in, same_meaning, some_there}
use Rattle.fil_check.specs.Needed.{Collide, HoldsTwice, NothingIsHeldTwice, first_ten, gap_starts, sharing_rules}
use Rattle.fil_check.proofs.ExactLemmas.{sharing_rules_are_exact}
use Rattle.fil_check.proofs.NeededLemmas.{overrun}
use Rattle.fil_laws.specs.Needed.{DesignsHoldNothingTwice, HoldingRulesAreExact, IsOverlong, OverlongIsReal, first_nine, holding_rules}

-- holds that are apart don't meet
not_twice : (holds : List Hold) (inst : Text) (event row : ℕ) → AllPairs NeverMeet holds → HoldsTwice holds inst event row → ⊥
not_twice holds inst event row apart two =
    let one = get_or_from_slice_get holds two.i two.one two.one two.at_one in
    let other = get_or_from_slice_get holds two.j two.other two.one two.at_other in
    let within = slice_get_within holds two.j two.other two.at_other in
    let both : NeverMeet two.one two.other = subst (λ (k : Hold). NeverMeet two.one k) other (subst (λ (h : Hold). NeverMeet h (get_or holds two.j two.one)) one (apart two.i two.j two.one two.differ within)) in
    let a = two.held_one in
    let b = two.held_other in
    elim (both (two.of_one.0 ∙ sym two.of_other.0) (two.of_one.1 ∙ sym two.of_other.1)) [
      | inl h ↦ (let x = a.1 in let y = b.0 in omega arith)
      | inr h ↦ (let x = a.0 in let y = b.1 in omega arith)
    ]

module _ (earlier : Design) (c : Component) (kept : KeepsComponent first_nine earlier c) where
  names : KeepsNames earlier c
  names = record {
    new_names = λ k s at. kept (suc k) (TheStatement (take k c.body) s) (inl (s, at, refl)) 0 F1 (omega arith);
    known_names = λ k s at. kept (suc k) (TheStatement (take k c.body) s) (inl (s, at, refl)) 1 F1 (omega arith);
  }

  distinct : AreDistinct (event_names c)
  distinct = (kept 0 TheSignature refl 0 F1 (omega arith)).events

  shape : HasShape c
  shape = kept 0 TheSignature refl 4 F1 (omega arith)

  abbrev whole : Scope
  whole = whole_scope earlier c

  -- a use that is held for longer than the delay meets that of the next transaction
  pub collides : (v : Invocation) (u : Use) (e : Event) → IsOverlong earlier c v u e → Collide whole (gap_starts e.name e.delay) v.inst u.event (e.delay + u.at.plus)
  collides v u e is =
      let long : e.delay < u.hold = is.long in
      let held : 0 < u.hold = omega arith in
      let gap : e.delay ≡ max e.delay (u.at.plus - u.at.plus) = omega arith in
      let found = overrun whole v v u u is.uses is.uses is.invoked is.invoked refl refl refl held held e is.is_own is.named distinct shape
      (λ fits. (let ends : u.at.plus + u.hold ≤ u.at.plus + e.delay = fits in omega arith)) e.delay gap in
      subst (λ (inst : Text). Collide whole (gap_starts e.name e.delay) inst u.event (e.delay + u.at.plus)) (parts_of is.uses.2).named
      (subst (λ (name : Text). Collide whole (gap_starts name e.delay) u.inst u.event (e.delay + u.at.plus)) (sym is.named) found)

  -- ---- F10, where nothing is held twice
  module _ (apart : NothingIsHeldTwice earlier c) where
    short : (v : Invocation) → Contains whole.invocations v → (u : Use) → IsUseOf whole v u → (e : Event) → Contains c.events e → e.name ≡ u.at.event → u.hold ≤ e.delay
    short v has u uses e is_own named = elim (cases_lt e.delay u.hold) [
      | inl long ↦
          let met = collides v u e (record { invoked = has; uses = uses; is_own = is_own; named = named; long = long }) in
          absurd (not_twice (holds_of whole (gap_starts e.name e.delay)) v.inst u.event (e.delay + u.at.plus) (apart (gap_starts e.name e.delay) met.legal) met.twice)
      | inr le ↦ le
    ]

    abbrev before : ℕ → Scope
    before k = scope_after earlier c (take k c.body)

    short_by : (k : ℕ) (v : Invocation) → Contains whole.invocations v → (o : Option Signature) → o ≡ instance_signature whole v.inst → IfSome o (λ sig. KeepsDelays (before k) sig v.inst v.gives)
    short_by k v has None is = tt
    short_by k v has (Some sig) is = λ u used e is_own named. short v has u (sig, sym is, used) e is_own named

    invoked : (k : ℕ) (s : Statement) → slice_get c.body k ≡ Some s → (v : Invocation) → Contains (invocations_at s) v → Contains whole.invocations v
    invoked k s at v has = in_flat invocations_at c.body s v (Contains-at c.body k s at) has

    delays_at : (k : ℕ) (s : Statement) → slice_get c.body k ≡ Some s → OfInvocation (KeepsDelays (before k)) (before k) s
    delays_at k (New name made params) at = tt
    delays_at k (Connect output value) at = tt
    delays_at k (Call name inst gives) at =
        let s = Call name inst gives in
        let v : Invocation = record { name = name; inst = inst; gives = gives } in
        short_by k v (invoked k s at v (0, omega arith, refl)) (instance_signature (before k) inst)
        (same_meaning earlier c names (made_in earlier c names k) (flat_map instances_at (drop k c.body)) inst (cut_before earlier c names k s at) (some_there (instance_named (made_in earlier c names k) inst) (names.known_names k s at).0))
    delays_at k (Both name made params gives) at =
        let s = Both name made params gives in
        let i : Instance = record { name = name; made = made; params = params } in
        let v : Invocation = record { name = name; inst = name; gives = gives } in
        let so_far = made_in earlier c names k in
        let last = find_last so_far i (All-head (λ (i : Instance). ¬ Contains (instance_names so_far) i.name) i [] (names.new_names k s at).instances) in
        short_by k v (invoked k s at v (0, omega arith, refl)) (signature_in earlier made params)
        (sym (ap (option_and_then (signature_of earlier)) last)
        ∙ same_meaning earlier c names (so_far ++ i ∷ []) (flat_map instances_at (drop (k + 1) c.body)) name (cut_with earlier c names k s at) (i, last))

    keeps_delays : (k : ℕ) (item : Item) → IsItem c k item → Keeps earlier c item F10
    keeps_delays zero item is = subst (λ (i : Item). Keeps earlier c i F10) (sym is) tt
    keeps_delays (suc k) item (inl (s, at, is)) = subst (λ (i : Item). Keeps earlier c i F10) (sym is) (delays_at k s at)
    keeps_delays (suc k) item (inr (last, is)) = subst (λ (i : Item). Keeps earlier c i F10) (sym is) tt

  -- ---- ten rules, from nine and the tenth

  pub ten_by : ((k : ℕ) (item : Item) → IsItem c k item → Keeps earlier c item F10) → KeepsComponent first_ten earlier c
  ten_by tenth k item is =
      let K : Rule → Type 0 = Keeps earlier c item in All-append K first_nine (F10 ∷ []) (kept k item is) (All-cons K F10 [] (tenth k item is) (All-nil K))

  pub ten_by_rules : KeepsComponent holding_rules earlier c → KeepsComponent first_ten earlier c
  ten_by_rules rules = ten_by (λ k item is. All-head (Keeps earlier c item) F10 sharing_rules (rules k item is))

  pub ten_by_holds : NothingIsHeldTwice earlier c → KeepsComponent first_ten earlier c
  ten_by_holds apart = ten_by (keeps_delays apart)

  module _ (others : KeepsRules first_ten earlier) where
    pub forth : KeepsComponent holding_rules earlier c → NothingIsHeldTwice earlier c
    forth rules = (sharing_rules_are_exact earlier c others (ten_by_rules rules)).0 (λ k item is. All-tail (Keeps earlier c item) F10 sharing_rules (rules k item is))

    pub back : NothingIsHeldTwice earlier c → KeepsComponent holding_rules earlier c
    back apart k item is =
        let sharing = (sharing_rules_are_exact earlier c others (ten_by_holds apart)).1 apart in
        All-cons (Keeps earlier c item) F10 sharing_rules (keeps_delays apart k item is) (sharing k item is)

pub overlong_is_real : OverlongIsReal
overlong_is_real earlier c v u e kept is = collides earlier c kept v u e is

pub holding_rules_are_exact : HoldingRulesAreExact
holding_rules_are_exact earlier c others kept = (forth earlier c kept others, back earlier c kept others)

-- ---- designs

taken : {X : Type 0} (k n : ℕ) (xs : List X) → k ≤ n → take k (take n xs) ≡ take k xs
taken zero n xs within = refl
taken (suc k) zero xs within = absurd (omega (arith, within))
taken (suc k) (suc n) [] within = refl
taken {X} (suc k) (suc n) (x ∷ xs) within = ap (λ (ys : List X). x ∷ ys) (taken k n xs (omega (arith, within)))

-- each component before one keeps what each keeps
rules_before : (rules : List Rule) (comps : Design) → KeepsRules rules comps → (n : ℕ) → KeepsRules rules (take n comps)
rules_before rules comps all n k d at =
    let below = slice_get_within (take n comps) k d at in
    let short = length-take n comps in
    subst (λ (earlier : Design). KeepsComponent rules earlier d) (sym (taken k n comps (omega (arith, below, short)))) (all k d (slice_get-take n comps k d at))

pub designs_hold_nothing_twice : DesignsHoldNothingTwice
designs_hold_nothing_twice comps nine = (
  λ rules n c at.
      (let ten : KeepsRules first_ten comps = λ m d at_m. ten_by_rules (take m comps) d (nine m d at_m) (rules m d at_m) in
      forth (take n comps) c (nine n c at) (rules_before first_ten comps ten n) (rules n c at)),
  λ apart n c at.
      (let ten : KeepsRules first_ten comps = λ m d at_m. ten_by_holds (take m comps) d (nine m d at_m) (apart m d at_m) in
      back (take n comps) c (nine n c at) (rules_before first_ten comps ten n) (apart n c at)),
)
