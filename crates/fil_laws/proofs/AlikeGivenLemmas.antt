-- Transactions that differ in values for inputs of other events alone give the instance at each path such transactions.
use Rattle.std.proofs.Common.{◌≡◌, ◌⊎◌, ℕ, ◌+◌, ◌<◌, ◌==◌, Bool, true, false, cond, List, [], ◌∷◌, flat_map, take, slice_get, Contains, Some, refl, sym, ap, subst, ◌∙◌, inl, inr, arith}
use Rattle.std.specs.List.{AllZip}
use Rattle.std.specs.Str.{bytes_eq}
use Rattle.std.proofs.lemmas.Bool.Decides.{Decides-eqb}
use Rattle.std.proofs.lemmas.Option.{same_Some}
use Rattle.std.proofs.lemmas.Slice.Eq.{bytes_eq-Decides}
use Rattle.hw_names.specs.Name.{Path, Text}
use Rattle.hw_prims.specs.Timed.{Behaviour, TimedSignature, Transaction, end_of}
use Rattle.fil_ast.specs.Behaviours.{IsGiven, component_behaviour, inner_transactions}
use Rattle.fil_ast.specs.Primitives.{is_filament_primitive}
use Rattle.fil_ast.specs.Rules.{FilRules}
use Rattle.fil_ast.specs.Scope.{Instance, instance_named}
use Rattle.fil_ast.specs.Tree.{Component, Design}
use Rattle.fil_ast.specs.Wires.{whole_scope}
use Rattle.fil_share.proofs.ListLemmas.{Contains-here, Contains-there}
use Rattle.fil_lower.specs.Separate.{AreAlike, IsSeparate}
use Rattle.fil_lower.specs.inside.Laws.{IsNeeded}
use Rattle.fil_lower.specs.inside.Plan.{Plan, Slot, Use}
use Rattle.fil_lower.specs.inside.PlanOf.{callee_of, plan_of}
use Rattle.fil_lower.specs.inside.PlanRules.{IsAvailable, IsEvent, given_by, given_by_slot, given_by_use, given_transactions}
use Rattle.fil_lower.proofs.DesignLemmas.{call_kind, component_promises, components_separate, primitive_promises, primitive_separate, same_place}
use Rattle.fil_lower.proofs.PlanLemmas.{plans_give, zip_append}
use Rattle.fil_lower.proofs.SeparateLemmas.{agrees}
use Rattle.fil_lower.proofs.WellLemmas.{plans_well_timed}
use Rattle.fil_laws.proofs.GivenLemmas.{IsBelow, IsOfPrimitive, of_instance, of_itself, primitive_name}
use Rattle.fil_laws.specs.Events.{GivenListsStayAlike}

-- ---- lists place by place

pub flipped : {X Y : Type 0} (R : X → Y → Type 0) (S : Y → X → Type 0) (xs : List X) (ys : List Y) → ((x : X) (y : Y) → R x y → S y x) → AllZip R xs ys → AllZip S ys xs
flipped R S [] [] turn zip = tt
flipped R S [] (y ∷ ys) turn zip = absurd zip
flipped R S (x ∷ xs) [] turn zip = absurd zip
flipped R S (x ∷ xs) (y ∷ ys) turn zip = (turn x y zip.0, flipped R S xs ys turn zip.1)

joined : {X : Type 0} (R : X → X → Type 0) (xs ys zs : List X) → ((x y z : X) → R x y → R y z → R x z) → AllZip R xs ys → AllZip R ys zs → AllZip R xs zs
joined R [] [] [] both zip more = tt
joined R [] [] (z ∷ zs) both zip more = absurd more
joined R [] (y ∷ ys) zs both zip more = absurd zip
joined R (x ∷ xs) [] zs both zip more = absurd zip
joined R (x ∷ xs) (y ∷ ys) [] both zip more = absurd more
joined R (x ∷ xs) (y ∷ ys) (z ∷ zs) both zip more = (both x y z zip.0 more.0, joined R xs ys zs both zip.1 more.1)

-- two lists that are made place by place
along : {X Y Z : Type 0} (Q : X → Y → Type 0) (R : Z → Z → Type 0) (f : X → List Z) (g : Y → List Z) (xs : List X) (ys : List Y) → AllZip Q xs ys → ((x : X) (y : Y) → Q x y → AllZip R (f x) (g y)) → AllZip R (flat_map f xs) (flat_map g ys)
along Q R f g [] [] zip each = tt
along Q R f g [] (y ∷ ys) zip each = absurd zip
along Q R f g (x ∷ xs) [] zip each = absurd zip
along Q R f g (x ∷ xs) (y ∷ ys) zip each = zip_append R (f x) (g y) (flat_map f xs) (flat_map g ys) (each x y zip.0) (along Q R f g xs ys zip.1 each)

-- of one list
along_one : {X Z : Type 0} (R : Z → Z → Type 0) (f g : X → List Z) (xs : List X) → ((x : X) → Contains xs x → AllZip R (f x) (g x)) → AllZip R (flat_map f xs) (flat_map g xs)
along_one R f g [] each = tt
along_one R f g (x ∷ xs) each = zip_append R (f x) (g x) (flat_map f xs) (flat_map g xs) (each x (Contains-here x xs)) (along_one R f g xs (λ y has. each y (Contains-there x xs y has)))

-- ---- transactions that are one to an instance

pub turned : (sig : TimedSignature) (a b : Transaction) → AreAlike sig a b → AreAlike sig b a
turned sig a b alike = record { event = sym alike.event; start = sym alike.start; hold = sym alike.hold; values = λ p has on. sym (alike.values p has (on ∙ sym alike.event)) }

both_alike : (sig : TimedSignature) (a b c : Transaction) → AreAlike sig a b → AreAlike sig b c → AreAlike sig a c
both_alike sig a b c one other = record {
  event = one.event ∙ other.event;
  start = one.start ∙ other.start;
  hold = one.hold ∙ other.hold;
  values = λ p has on. one.values p has on ∙ other.values p has (on ∙ one.event);
}

module _ (comps : Design) (rules : FilRules comps) (n : ℕ) (c : Component) (here : slice_get comps n ≡ Some c) where
  abbrev earlier : Design
  earlier = take n comps

  abbrev plan : Plan
  plan = plan_of earlier c

  callees : (call : Use) → Contains plan.uses call → IsSeparate (plan.callee call.inst) × IsNeeded (plan.callee call.inst).sig
  callees call has =
      let k = call_kind comps rules n c here call has in (
        elim k.0 [
          | inl p ↦ subst IsSeparate (sym p.promises) (primitive_separate p.prim)
          | inr d ↦ subst IsSeparate (sym d.promises) (components_separate comps rules d.m d.d d.at)
        ],
        k.1,
      )

  module _ (inst : Text) where
    abbrev Alike : Transaction → Transaction → Type 0
    Alike a b = AreAlike (callee_of earlier c inst).sig a b

    module _ (tx other : Transaction) (alike : AreAlike plan.sig tx other) where
      -- what a use gives the instance
      given_alike : (call : Use) (has : Contains plan.uses call) → call.inst ≡ inst → (slot : Slot) → Contains call.slots slot → slot.event ≡ tx.event → Alike (given_by plan tx call slot) (given_by plan other call slot)
      given_alike call has of_inst slot has_slot on = record {
        event = refl;
        start = ap (λ (row : ℕ). row + slot.plus) alike.start;
        hold = refl;
        values = λ p has_p target.
            let well = plans_well_timed comps rules n c here in
            let in_call : Contains (plan.callee call.inst).sig.ins p = subst (λ (name : Text). Contains (plan.callee name).sig.ins p) (sym of_inst) has_p in
            let g = well.triggered call has slot has_slot in
            let needed : p.from < end_of p slot.hold = (callees call has).1 p in_call g.theirs (subst (λ (k : ℕ). IsEvent (plan.callee call.inst).sig k g.theirs) (sym target) g.is_theirs) slot.hold g.held in
            agrees plan well callees tx.values other.values tx.event (λ q has_q own. alike.values q has_q own) (call.args p.name) (well.scoped call has p.name) (slot.plus + p.from)
            (subst (λ (k : ℕ). IsAvailable plan (call.args p.name) k (slot.plus + p.from)) on (well.needs call has slot has_slot p in_call target (slot.plus + p.from) (omega arith) (omega (arith, needed))));
      }

      slot_alike : (call : Use) → Contains plan.uses call → call.inst ≡ inst → (slot : Slot) → Contains call.slots slot → AllZip Alike (given_by_slot plan tx call slot) (given_by_slot plan other call slot)
      slot_alike call has of_inst slot has_slot =
          subst (λ (k : ℕ). AllZip Alike (given_by_slot plan tx call slot) (cond (slot.event == k) (given_by plan other call slot ∷ []) [])) alike.event (by (slot.event == tx.event) refl)
        where
          by : (b : Bool) → (slot.event == tx.event) ≡ b → AllZip Alike (cond b (given_by plan tx call slot ∷ []) []) (cond b (given_by plan other call slot ∷ []) [])
          by true is = (given_alike call has of_inst slot has_slot ((Decides-eqb slot.event tx.event).0 is), tt)
          by false is = tt

      use_alike : (call : Use) → Contains plan.uses call → AllZip Alike (given_by_use plan inst tx call) (given_by_use plan inst other call)
      use_alike call has = by (bytes_eq call.inst inst) refl
        where
          by : (b : Bool) → bytes_eq call.inst inst ≡ b → AllZip Alike (cond b (flat_map (given_by_slot plan tx call) call.slots) []) (cond b (flat_map (given_by_slot plan other call) call.slots) [])
          by true is = along_one Alike (given_by_slot plan tx call) (given_by_slot plan other call) call.slots (λ slot has_slot. slot_alike call has ((bytes_eq-Decides call.inst inst).0 is) slot has_slot)
          by false is = tt

    -- what such transactions give the instance
    pub inner_alike : (txs others : List Transaction) → AllZip (AreAlike plan.sig) txs others → AllZip Alike (inner_transactions earlier c txs inst) (inner_transactions earlier c others inst)
    inner_alike txs others zip =
        let sig = (callee_of earlier c inst).sig in
        let planned : AllZip Alike (given_transactions plan txs inst) (given_transactions plan others inst) =
        along (AreAlike plan.sig) Alike (λ (tx : Transaction). flat_map (given_by_use plan inst tx) plan.uses) (λ (tx : Transaction). flat_map (given_by_use plan inst tx) plan.uses) txs others zip
        (λ tx other alike. along_one Alike (given_by_use plan inst tx) (given_by_use plan inst other) plan.uses (use_alike tx other alike)) in
        let first : AllZip Alike (inner_transactions earlier c txs inst) (given_transactions plan txs inst) =
        flipped Alike Alike (given_transactions plan txs inst) (inner_transactions earlier c txs inst) (turned sig) (plans_give comps rules n c here txs inst) in
        joined Alike (inner_transactions earlier c txs inst) (given_transactions plan txs inst) (inner_transactions earlier c others inst) (both_alike sig) first
        (joined Alike (given_transactions plan txs inst) (given_transactions plan others inst) (inner_transactions earlier c others inst) (both_alike sig) planned (plans_give comps rules n c here others inst))

-- ---- down a path

module _ (comps : Design) (rules : FilRules comps) (b : Behaviour) (given given' : List Transaction) where
  abbrev StayAlike : Type 0
  StayAlike = AllZip (AreAlike b.sig) given given'

  abbrev InnerAlike : ℕ → Component → Text → List Transaction → List Transaction → Behaviour → Type 0
  InnerAlike n c inst txs others p = AllZip (AreAlike p.sig) (inner_transactions (take n comps) c txs inst) (inner_transactions (take n comps) c others inst)

  path_alike : (path : Path) (n : ℕ) (c : Component) → slice_get comps n ≡ Some c → (txs others : List Transaction) → AllZip (AreAlike (component_behaviour (take n comps) c).sig) txs others →
      IsGiven comps b given n txs path → IsGiven comps b given' n others path → StayAlike
  path_alike [] n c here txs others zip is is' =
      let x = of_itself comps b given n txs is in
      let y = of_itself comps b given' n others is' in
      let same : x.c ≡ c = same_Some x.c c (sym x.at ∙ here) in
      let promise : component_behaviour (take n comps) c ≡ b = ap (component_behaviour (take n comps)) (sym same) ∙ sym x.promises in
      subst (λ (xs : List Transaction). AllZip (AreAlike b.sig) xs given') (sym x.list)
      (subst (λ (ys : List Transaction). AllZip (AreAlike b.sig) txs ys) (sym y.list)
      (subst (λ (p : Behaviour). AllZip (AreAlike p.sig) txs others) promise zip))
  path_alike (inst ∷ path) n c here txs others zip is is' =
      by (of_instance comps b given n txs inst path is) (of_instance comps b given' n others inst path is') (path_alike path)
    where
      inner : InnerAlike n c inst txs others (callee_of (take n comps) c inst)
      inner = inner_alike comps rules n c here inst txs others zip

      -- the component is one, and so is the instance
      one : (x : Component) → slice_get comps n ≡ Some x → x ≡ c
      one x at = same_Some x c (sym at ∙ here)

      same_instance : (x y : Component) (i j : Instance) → slice_get comps n ≡ Some x → slice_get comps n ≡ Some y → instance_named (whole_scope (take n comps) x).instances inst ≡ Some i →
          instance_named (whole_scope (take n comps) y).instances inst ≡ Some j → i ≡ j
      same_instance x y i j at at' found found' =
          same_Some i j (sym found ∙ ap (λ (z : Component). instance_named (whole_scope (take n comps) z).instances inst) (one x at ∙ sym (one y at')) ∙ found')

      by : IsOfPrimitive comps b given n txs inst path ⊎ IsBelow comps b given n txs inst path → IsOfPrimitive comps b given' n others inst path ⊎ IsBelow comps b given' n others inst path
          → ((m : ℕ) (d : Component) → slice_get comps m ≡ Some d → (us vs : List Transaction) → AllZip (AreAlike (component_behaviour (take m comps) d).sig) us vs → IsGiven comps b given m us path → IsGiven comps b given' m vs path → StayAlike) → StayAlike
      by (inl x) (inl y) deeper =
          let promise : callee_of (take n comps) c inst ≡ b =
          ap (λ (z : Component). callee_of (take n comps) z inst) (sym (one x.c x.at)) ∙ primitive_promises comps rules n x.c x.at inst x.i x.prim x.found x.means ∙ sym x.promises in
          let first : inner_transactions (take n comps) c txs inst ≡ given = ap (λ (z : Component). inner_transactions (take n comps) z txs inst) (sym (one x.c x.at)) ∙ sym x.list in
          let second : inner_transactions (take n comps) c others inst ≡ given' = ap (λ (z : Component). inner_transactions (take n comps) z others inst) (sym (one y.c y.at)) ∙ sym y.list in
          subst (λ (xs : List Transaction). AllZip (AreAlike b.sig) xs given') first
          (subst (λ (ys : List Transaction). AllZip (AreAlike b.sig) (inner_transactions (take n comps) c txs inst) ys) second (subst (InnerAlike n c inst txs others) promise inner))
      by (inl x) (inr y) deeper =
          let i = same_instance x.c y.c x.i y.i x.at y.at x.found y.found in
          absurd (primitive_name x.i x.prim x.means (ap (λ (j : Instance). is_filament_primitive j.made) i ∙ y.none))
      by (inr x) (inl y) deeper =
          let i = same_instance x.c y.c x.i y.i x.at y.at x.found y.found in
          absurd (primitive_name y.i y.prim y.means (sym (ap (λ (j : Instance). is_filament_primitive j.made) i) ∙ x.none))
      by (inr x) (inr y) deeper =
          let i = same_instance x.c y.c x.i y.i x.at y.at x.found y.found in
          let place = same_place comps rules y.m x.m y.d x.d y.at_m x.at_m (y.named ∙ sym (ap (λ (j : Instance). j.made) i) ∙ sym x.named) in
          let promise : callee_of (take n comps) c inst ≡ component_behaviour (take x.m comps) x.d =
          ap (λ (z : Component). callee_of (take n comps) z inst) (sym (one x.c x.at)) ∙ component_promises comps rules n x.c x.at inst x.i x.m x.d x.found x.none x.below x.at_m x.named in
          let rest = subst (λ (z : Component). IsGiven comps b given x.m (inner_transactions (take n comps) z txs inst) path) (one x.c x.at) x.rest in
          let rest' = subst (λ (m : ℕ). IsGiven comps b given' m (inner_transactions (take n comps) c others inst) path) place
          (subst (λ (z : Component). IsGiven comps b given' y.m (inner_transactions (take n comps) z others inst) path) (one y.c y.at) y.rest) in
          deeper x.m x.d x.at_m (inner_transactions (take n comps) c txs inst) (inner_transactions (take n comps) c others inst) (subst (InnerAlike n c inst txs others) promise inner) rest rest'

pub given_lists_stay_alike : GivenListsStayAlike
given_lists_stay_alike comps n c txs others rules here zip path b given given' is is' = path_alike comps rules b given given' path n c here txs others zip is is'
