-- A component of a design that keeps the rules makes instances of new names, of what can be used.
use Rattle.std.proofs.Common.{◌≡◌, ℕ, zero, suc, ◌+◌, ◌<◌, ◌≤◌, Bool, true, false, cond, List, [], ◌∷◌, ◌++◌, length, map, flat_map, take, get_or, slice_get, All, Option, Some, None, inl, refl, sym, ap, subst, ◌∙◌, add-one, arith}
use Rattle.std.specs.Option.{IfSome}
use Rattle.std.proofs.lemmas.List.{append-nil, map-append, take_more}
use Rattle.std.proofs.lemmas.List.Concat.{flat_map-append}
use Rattle.std.proofs.lemmas.List.Elements.{All-cons, All-contains, All-nil, All-take}
use Rattle.std.proofs.lemmas.Option.{slice_get-get_or, slice_get_within, get_or_from_slice_get}
use Rattle.hw_names.specs.Name.{Text, AreDistinct}
use Rattle.hw_names.proofs.NameLemmas.{AreDistinct-push}
use Rattle.fil_ast.specs.Items.{TheSignature, TheStatement, scope_after}
use Rattle.fil_ast.specs.Naming.{UsesKnownNames, component_names}
use Rattle.fil_ast.specs.Primitives.{is_filament_primitive}
use Rattle.fil_ast.specs.Rules.{F1, FilRules, all_rules, Keeps}
use Rattle.fil_ast.specs.Scope.{instances_at, component_named}
use Rattle.fil_ast.specs.Tree.{Component, Design, Statement, New, Call, Both, Connect}
use Rattle.fil_ast.specs.Typing.{HasParameters, HasShape, HasWidths, KeepsWidths}
use Rattle.fil_sig.specs.Refusals.{IsUsable, IsKnown, meant_component}
use Rattle.fil_share.specs.Instances.{CanBeMade, MakesInstances}
use Rattle.fil_share.proofs.CalleeLemmas.{named_among}

-- the elements so far, and what they make, with the next
pub take_next : {X : Type 0} (xs : List X) (i : ℕ) (x : X) → slice_get xs i ≡ Some x → take (i + 1) xs ≡ take i xs ++ x ∷ []
take_next xs i x at =
    take_more xs i x (slice_get_within xs i x at) ∙ ap (λ y. take i xs ++ y ∷ []) (get_or_from_slice_get xs i x x at)

pub flat_next : {X Y : Type 0} (f : X → List Y) (xs : List X) (i : ℕ) (x : X) → slice_get xs i ≡ Some x → flat_map f (take (i + 1) xs) ≡ flat_map f (take i xs) ++ f x
flat_next f xs i x at =
    ap (flat_map f) (take_next xs i x at) ∙ flat_map-append f (take i xs) (x ∷ []) ∙ ap (λ ys. flat_map f (take i xs) ++ ys) (append-nil (f x))

module _ (comps : Design) (rules : FilRules comps) where
  wide : All HasWidths comps
  wide k d within = rules.keeps k (get_or comps k d) (slice_get-get_or comps k d within) 0 TheSignature refl 2 F1 (omega arith)

  shaped : All HasShape comps
  shaped k d within = rules.keeps k (get_or comps k d) (slice_get-get_or comps k d within) 0 TheSignature refl 4 F1 (omega arith)

  meant : (P : Component → Type 0) (earlier : Design) (name : Text) → All P earlier → IfSome (meant_component earlier name) P
  meant P earlier name all = by (is_filament_primitive name) refl
    where
      found : (o : Option Component) → component_named earlier name ≡ o → IfSome o P
      found None is = tt
      found (Some c) is = All-contains P earlier c all (named_among name earlier c is)

      by : (b : Bool) → is_filament_primitive name ≡ b → IfSome (meant_component earlier name) P
      by true e = let Q : Bool → Type 0 = λ b. IfSome (cond b None (component_named earlier name)) P in subst Q (sym e) tt
      by false e = let Q : Bool → Type 0 = λ b. IfSome (cond b None (component_named earlier name)) P in subst Q (sym e) (found (component_named earlier name) refl)

  module _ (n : ℕ) (c : Component) (there : slice_get comps n ≡ Some c) where
    pub at_statement : (k : ℕ) (s : Statement) → slice_get c.body k ≡ Some s → All (Keeps (take n comps) c (TheStatement (take k c.body) s)) all_rules
    at_statement k s at = rules.keeps n c there (suc k) (TheStatement (take k c.body) s) (inl (s, at, refl))

    usable : (name : Text) (params : List ℕ) → IsKnown (take n comps) name → HasParameters (scope_after (take n comps) c []) name params → IsUsable (take n comps) name params
    usable name params known parameters = record {
      known = known;
      widths = record { parameters = parameters; own = meant HasWidths (take n comps) name (All-take HasWidths n comps wide) };
      shape = meant HasShape (take n comps) name (All-take HasShape n comps shaped);
    }

    pub makes_instances : MakesInstances (take n comps) c.body
    makes_instances = record {
      new = λ k s at. (at_statement k s at 0 F1 (omega arith)).instances;
      made = λ k s at. by k s at (at_statement k s at 1 F1 (omega arith)) (at_statement k s at 2 F1 (omega arith));
    }
      where
        by : (k : ℕ) (s : Statement) → slice_get c.body k ≡ Some s → UsesKnownNames (scope_after (take n comps) c (take k c.body)) s → KeepsWidths (scope_after (take n comps) c (take k c.body)) s → All (CanBeMade (take n comps)) (instances_at s)
        by k (New name made params) at known widths = All-cons (CanBeMade (take n comps)) _ [] (usable made params known widths) (All-nil (CanBeMade (take n comps)))
        by k (Both name made params gives) at known widths = All-cons (CanBeMade (take n comps)) _ [] (usable made params known.0 widths.0) (All-nil (CanBeMade (take n comps)))
        by k (Call name inst gives) at known widths = All-nil (CanBeMade (take n comps))
        by k (Connect output value) at known widths = All-nil (CanBeMade (take n comps))

pub map_take : {X Y : Type 0} (f : X → Y) (n : ℕ) (xs : List X) → map f (take n xs) ≡ take n (map f xs)
map_take f zero xs = refl
map_take f (suc n) [] = refl
map_take f (suc n) (x ∷ xs) = ap (λ ys. f x ∷ ys) (map_take f n xs)

no_component : Component
no_component = record { name = []; events = []; interfaces = []; ins = []; outs = []; body = [] }

-- the names of the components differ
pub names_differ : (comps : Design) → FilRules comps → (n : ℕ) → n ≤ length comps → AreDistinct (component_names (take n comps))
names_differ comps rules zero within = λ i j d less below. absurd (omega arith)
names_differ comps rules (suc n) within =
    let c = get_or comps n no_component in
    let below : n < length comps = omega arith in
    let at : slice_get comps n ≡ Some c = slice_get-get_or comps n no_component below in
    let more : component_names (take n comps) ++ c.name ∷ [] ≡ component_names (take (suc n) comps) =
    sym (map-append (λ (d : Component). d.name) (take n comps) (c ∷ [])) ∙ ap component_names (sym (take_next comps n c at) ∙ ap (λ k. take k comps) (add-one n)) in
    let D : List Text → Type 0 = AreDistinct in
    subst D more (AreDistinct-push (component_names (take n comps)) c.name (names_differ comps rules n (omega arith)) (rules.keeps n c at 0 TheSignature refl 0 F1 (omega arith)).new)
