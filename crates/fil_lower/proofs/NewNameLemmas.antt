-- Lists of names to which each statement adds a new one at most: the names are distinct, and so are those of a component's instances and of its invocations.
use Rattle.std.proofs.Common.{◌≡◌, ◌⊎◌, ℕ, zero, suc, ◌<◌, ◌≤◌, List, [], ◌∷◌, ◌++◌, length, flat_map, take, get_or, slice_get, All, Some, refl, sym, ap, subst, ◌∙◌, inl, inr, add-one, arith}
use Rattle.std.specs.Prelude.{Contains}
use Rattle.std.proofs.lemmas.List.{append-nil, map-append}
use Rattle.std.proofs.lemmas.List.Elements.{All-head, Contains-append_right}
use Rattle.std.proofs.lemmas.Option.{slice_get-get_or}
use Rattle.std.proofs.Math.Seq.{take-length}
use Rattle.hw_names.specs.Name.{Text, AreDistinct}
use Rattle.hw_names.proofs.NameLemmas.{AreDistinct-push}
use Rattle.fil_ast.specs.Naming.{instance_names, invocation_names, port_names}
use Rattle.fil_ast.specs.Scope.{Instance, Invocation, instances_at, invocations_at}
use Rattle.fil_ast.specs.Tree.{Component, Design, Statement, New, Call, Both, Connect}
use Rattle.fil_ast.specs.Wires.{whole_scope}
use Rattle.fil_share.proofs.MakesLemmas.{flat_next}
use Rattle.fil_share.proofs.OwnLemmas.{KeepsNames}

-- ---- lists to which each statement adds a new name at most

module _ (f : Statement → List Text) (body : List Statement) where
  abbrev pub AddsNew : ℕ → Statement → Type 0
  AddsNew k s = (f s ≡ []) ⊎ ((name : Text) × (f s ≡ name ∷ []) × ¬ Contains (flat_map f (take k body)) name)

  module _ (each : (k : ℕ) (s : Statement) → slice_get body k ≡ Some s → AddsNew k s) where
    distinct_next : (k : ℕ) (s : Statement) → AreDistinct (flat_map f (take k body)) → AddsNew k s → AreDistinct (flat_map f (take k body) ++ f s)
    distinct_next k s distinct (inl none) =
        let D : List Text → Type 0 = AreDistinct in
        subst D (sym (append-nil (flat_map f (take k body))) ∙ ap (λ more. flat_map f (take k body) ++ more) (sym none)) distinct
    distinct_next k s distinct (inr (name, one, absent)) =
        let D : List Text → Type 0 = AreDistinct in
        subst D (ap (λ more. flat_map f (take k body) ++ more) (sym one)) (AreDistinct-push (flat_map f (take k body)) name distinct absent)

    distinct_to : (k : ℕ) → k ≤ length body → AreDistinct (flat_map f (take k body))
    distinct_to zero within = λ i j d less below. absurd (omega (arith, less, below))
    distinct_to (suc k) within =
        let s = get_or body k (New [] [] []) in
        let below : k < length body = omega (arith, within) in
        let at : slice_get body k ≡ Some s = slice_get-get_or body k (New [] [] []) below in
        let D : List Text → Type 0 = AreDistinct in
        subst D (sym (flat_next f body k s at) ∙ ap (λ (m : ℕ). flat_map f (take m body)) (add-one k)) (distinct_next k s (distinct_to k (omega (arith, within))) (each k s at))

    pub distinct_all : AreDistinct (flat_map f body)
    distinct_all =
        let D : List Statement → Type 0 = λ b. AreDistinct (flat_map f b) in
        let all : length body ≤ length body = omega arith in
        subst D (take-length body) (distinct_to (length body) all)

-- ---- instances

abbrev made_at : Statement → List Text
made_at s = instance_names (instances_at s)

made_joined : (body : List Statement) → instance_names (flat_map instances_at body) ≡ flat_map made_at body
made_joined [] = refl
made_joined (s ∷ body) = map-append (λ (i : Instance). i.name) (instances_at s) (flat_map instances_at body) ∙ ap (λ rest. made_at s ++ rest) (made_joined body)

module _ (earlier : Design) (c : Component) (named : KeepsNames earlier c) where
  abbrev IsNew : ℕ → Instance → Type 0
  IsNew k i = ¬ Contains (instance_names (flat_map instances_at (take k c.body))) i.name

  adds_instance : (k : ℕ) (s : Statement) → slice_get c.body k ≡ Some s → AddsNew made_at c.body k s
  adds_instance k s at = by s (named.new_names k s at).instances
    where
      first : (i : Instance) → All (IsNew k) (i ∷ []) → ¬ Contains (flat_map made_at (take k c.body)) i.name
      first i new = subst (λ (names : List Text). ¬ Contains names i.name) (made_joined (take k c.body)) (All-head (IsNew k) i [] new)

      by : (s : Statement) → All (IsNew k) (instances_at s) → AddsNew made_at c.body k s
      by (Call name inst gives) new = inl refl
      by (Connect output value) new = inl refl
      by (New name made params) new = inr (name, refl, first (record { name = name; made = made; params = params }) new)
      by (Both name made params gives) new = inr (name, refl, first (record { name = name; made = made; params = params }) new)

  -- the instances of a component have names of their own
  pub instances_distinct : AreDistinct (instance_names (whole_scope earlier c).instances)
  instances_distinct = (let D : List Text → Type 0 = AreDistinct in subst D (sym (made_joined c.body)) (distinct_all made_at c.body adds_instance))

-- ---- invocations

abbrev names_at : Statement → List Text
names_at s = invocation_names (invocations_at s)

names_joined : (body : List Statement) → invocation_names (flat_map invocations_at body) ≡ flat_map names_at body
names_joined [] = refl
names_joined (s ∷ body) = map-append (λ (v : Invocation). v.name) (invocations_at s) (flat_map invocations_at body) ∙ ap (λ rest. names_at s ++ rest) (names_joined body)

module _ (earlier : Design) (c : Component) (named : KeepsNames earlier c) where
  adds_invocation : (k : ℕ) (s : Statement) → slice_get c.body k ≡ Some s → AddsNew names_at c.body k s
  adds_invocation k s at = by s (named.new_names k s at).invocations
    where
      absent : (v : Invocation) → ¬ Contains (port_names c ++ invocation_names (flat_map invocations_at (take k c.body))) v.name → ¬ Contains (flat_map names_at (take k c.body)) v.name
      absent v new = λ there.
          new (Contains-append_right (port_names c) (invocation_names (flat_map invocations_at (take k c.body))) v.name
          (subst (λ (names : List Text). Contains names v.name) (sym (names_joined (take k c.body))) there))

      first : (v : Invocation) → All (λ (v : Invocation). ¬ Contains (port_names c ++ invocation_names (flat_map invocations_at (take k c.body))) v.name) (v ∷ []) → ¬ Contains (flat_map names_at (take k c.body)) v.name
      first v new = absent v (All-head (λ (v : Invocation). ¬ Contains (port_names c ++ invocation_names (flat_map invocations_at (take k c.body))) v.name) v [] new)

      by : (s : Statement) → All (λ (v : Invocation). ¬ Contains (port_names c ++ invocation_names (flat_map invocations_at (take k c.body))) v.name) (invocations_at s) → AddsNew names_at c.body k s
      by (New name made params) new = inl refl
      by (Connect output value) new = inl refl
      by (Call name inst gives) new = inr (name, refl, first (record { name = name; inst = inst; gives = gives }) new)
      by (Both name made params gives) new = inr (name, refl, first (record { name = name; inst = name; gives = gives }) new)

  -- the invocations of a component have names of their own
  pub invocations_distinct : AreDistinct (invocation_names (whole_scope earlier c).invocations)
  invocations_distinct = (let D : List Text → Type 0 = AreDistinct in subst D (sym (names_joined c.body)) (distinct_all names_at c.body adds_invocation))
