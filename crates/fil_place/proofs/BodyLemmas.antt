-- That the statements of a component that keeps the rules fill tables that show what names mean.
use Rattle.std.proofs.Common.{◌≡◌, ℕ, List, [], Some, map, slice_get, refl, sym, ap, subst, ◌∙◌, arith, suc, ◌+◌, ◌≤◌, ◌∷◌, ◌++◌, length, take, flat_map, Result, Ok, inl, Bool, true, false}
use Rattle.std.proofs.lemmas.List.{append-nil, take_all}
use Rattle.hw_names.specs.Name.{Text}
use Rattle.fil_ast.specs.Items.{scope_after, TheStatement}
use Rattle.fil_ast.specs.Naming.{event_names, port_names, MakesNewNames, UsesKnownNames}
use Rattle.fil_ast.specs.Tree.{Component, Design, component_tree, Statement}
use Rattle.fil_ast.specs.declared.tree.FilComp.{FilComp}
use Rattle.fil_place.specs.Tables.{Shows, ShowsEarlier, listed, made_signature, times_shown, grown, IsPlace}
use Rattle.fil_place.specs.declared.earlier.Earlier.{Earlier}
use Rattle.fil_place.specs.declared.tables.Tables.{Tables}
use Rattle.std.proofs.lemmas.List.Concat.{flat_map-append}
use Rattle.fil_ast.specs.Rules.{KeepsComponent, all_rules, F1}
use Rattle.fil_ast.specs.Scope.{Scope, Instance, Invocation, instances_at, invocations_at}
use Rattle.fil_share.proofs.ListLemmas.{take_next}
use Rattle.hw_bits.specs.declared.memory.Memory.{Memory}
use Rattle.fil_ast.specs.Typing.{KeepsWidths}

pub start_shown : (earlier : Earlier) (comps : Design) (c : Component) (tables : Tables) → ShowsEarlier earlier comps → tables.events ≡ event_names c → tables.ports ≡ port_names c → tables.instances ≡ []
    → tables.made.items ≡ [] → tables.invoked.items ≡ [] → tables.times.items ≡ [] → tables.calls.items ≡ [] → Shows earlier tables (scope_after comps c [])
start_shown earlier comps c tables shows events ports instances made invoked times calls = record {
  components = shows;
  events = events;
  ports = ports ∙ sym (append-nil (port_names c));
  instances = instances;
  distinct = λ i j d before within. absurd (omega arith);
  made = ap (map (made_signature earlier)) made;
  invoked = ap (map (slice_get tables.instances)) invoked;
  times = ap (map (times_shown tables.events)) times;
  calls = ap (map listed) calls;
}

-- the scope after one more statement
pub scope_more : (comps : Design) (c : Component) (before : List Statement) (s : Statement) → grown (scope_after comps c before) s ≡ scope_after comps c (before ++ s ∷ [])
scope_more comps c before s =
    let instances : flat_map instances_at before ++ instances_at s ≡ flat_map instances_at (before ++ s ∷ []) =
    sym (flat_map-append instances_at before (s ∷ []) ∙ ap (λ (is : List Instance). flat_map instances_at before ++ is) (append-nil (instances_at s))) in
    let invocations : flat_map invocations_at before ++ invocations_at s ≡ flat_map invocations_at (before ++ s ∷ []) =
    sym (flat_map-append invocations_at before (s ∷ []) ∙ ap (λ (vs : List Invocation). flat_map invocations_at before ++ vs) (append-nil (invocations_at s))) in
    cc

-- a statement of a component that keeps the rules keeps F1 to F3
module _ (comps : Design) (c : Component) (keeps : KeepsComponent all_rules comps c) (k : ℕ) (s : Statement) (at : slice_get c.body k ≡ Some s) where
  pub makes_new : MakesNewNames (scope_after comps c (take k c.body)) s
  makes_new = keeps (suc k) (TheStatement (take k c.body) s) (inl (s, at, refl)) 0 F1 (omega arith)

  pub uses_known : UsesKnownNames (scope_after comps c (take k c.body)) s
  uses_known = keeps (suc k) (TheStatement (take k c.body) s) (inl (s, at, refl)) 1 F1 (omega arith)

  pub keeps_widths : KeepsWidths (scope_after comps c (take k c.body)) s
  keeps_widths = keeps (suc k) (TheStatement (take k c.body) s) (inl (s, at, refl)) 2 F1 (omega arith)

module _ (names : List Text) (earlier : Earlier) (comps : Design) (comp : FilComp) (tables : Tables) where
  -- the tables show what names mean after these statements
  abbrev pub IsPlaceAfter : List Statement → Type 0
  IsPlaceAfter before = IsPlace names earlier comp tables (scope_after comps (component_tree names comp) before)

  -- so they do after one more
  pub place_more : (k : ℕ) (s : Statement) → slice_get (component_tree names comp).body k ≡ Some s
      → Shows earlier tables (grown (scope_after comps (component_tree names comp) (take k (component_tree names comp).body)) s)
      → IsPlaceAfter (take (k + 1) (component_tree names comp).body)
  place_more k s at shows =
      let tree = component_tree names comp in
      let before = take k tree.body in
      let P : Scope → Type 0 = IsPlace names earlier comp tables in
      subst IsPlaceAfter (sym (take_next tree.body k s at)) (subst P (scope_more comps tree before s) (record { shows = shows; is_comp = refl }))

  -- and after all of them
  pub place_last : (k : ℕ) → length (component_tree names comp).body ≤ k → IsPlaceAfter (take k (component_tree names comp).body) → IsPlaceAfter (component_tree names comp).body
  place_last k end place = subst IsPlaceAfter (take_all k (component_tree names comp).body end) place

-- all were new
pub were_new : (b : Bool) (r : Result Bool Memory) → r ≡ Ok b → (r ≡ Ok false → ⊥) → r ≡ Ok true
were_new true r is clash = is
were_new false r is clash = absurd (clash is)
