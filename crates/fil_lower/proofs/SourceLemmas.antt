-- Values of a lowered component: an assignment reads the port that the plan reads.
use Rattle.std.proofs.Common.{◌≡◌, ℕ, zero, suc, ◌<◌, ◌≤◌, Bool, true, false, cond, List, [], ◌∷◌, ◌++◌, length, flat_map, take, drop, get_or, slice_get, Option, Some, refl, sym, ap, subst, ◌∙◌, add-one, arith}
use Rattle.std.specs.List.{AllZip}
use Rattle.std.specs.Option.{option_map_or, option_or}
use Rattle.std.specs.Prelude.{bytes_eq, if◌then◌else◌}
use Rattle.std.proofs.lemmas.List.{append-nil, take-append-drop}
use Rattle.std.proofs.lemmas.List.Concat.{flat_map-append}
use Rattle.std.proofs.lemmas.List.Folds.{find-append}
use Rattle.std.proofs.lemmas.Option.{none-some, option_and_then_some, same_Some, slice_get-get_or}
use Rattle.std.proofs.lemmas.Slice.Zip.{all_zipped_more}
use Rattle.std.proofs.Math.Seq.{take-length}
use Rattle.hw_names.specs.Name.{Path, Text, dotted, full_name}
use Rattle.hw_names.proofs.NameLemmas.{full_name-append}
use Rattle.hw_prims.specs.Row.{Row, Trace}
use Rattle.net_core.specs.Guard.{source_value}
use Rattle.cal_ast.specs.CalRun.{look}
use Rattle.fil_ast.specs.Items.{scope_after}
use Rattle.fil_ast.specs.Naming.{IsKnownValue}
use Rattle.fil_ast.specs.Rules.{FilRules}
use Rattle.fil_ast.specs.Scope.{Invocation, invocation_named, invocations_at, result_at, result_of}
use Rattle.fil_ast.specs.Tree as tree
use Rattle.fil_ast.specs.Tree.{Component, Design, Statement, New, Call, Both, Connect, ValueTree, InputValue, OutputValue}
use Rattle.fil_ast.specs.Wires.{whole_scope}
use Rattle.fil_share.proofs.MakesLemmas.{flat_next}
use Rattle.fil_share.proofs.OwnLemmas.{some_there}
use Rattle.fil_lower.specs.inside.Lowered.{source_in}
use Rattle.fil_lower.specs.inside.LoweredDesign.{run_at}
use Rattle.fil_lower.specs.inside.Lowering.{Registers, lowered_value, lowering_with}
use Rattle.fil_lower.specs.inside.Plan.{Use}
use Rattle.fil_lower.specs.inside.PlanOf.{Resolved, call_named, output_of_call, resolved, resolved_after, resolved_calls, source_of}
use Rattle.fil_lower.proofs.AvailableLemmas.{named_more, resolved_cut, resolved_more}

module _ (comps : Design) (rules : FilRules comps) (n : ℕ) (c : Component) (here : slice_get comps n ≡ Some c) where
  abbrev earlier : Design
  earlier = take n comps

  abbrev pub called_before : ℕ → List Invocation
  called_before k = flat_map invocations_at (take k c.body)

  abbrev pub known_before : ℕ → List Resolved
  known_before k = resolved_after earlier c [] (called_before k)

  -- an invocation, its statement, and its resolved form
  pub record IsMadeAt (v : Invocation) (r : Resolved) : Type 0 where
    pub k : ℕ
    pub s : Statement
    pub at : slice_get c.body k ≡ Some s
    pub only : invocations_at s ≡ v ∷ []
    pub is : resolved earlier c (known_before k) v ≡ r

  made_next : (k : ℕ) (s : Statement) → slice_get c.body k ≡ Some s → AllZip IsMadeAt (called_before k) (known_before k) → AllZip IsMadeAt (called_before k ++ invocations_at s) (resolved_after earlier c (known_before k) (invocations_at s))
  made_next k (New name made params) at zip = subst (λ (vs : List Invocation). AllZip IsMadeAt vs (known_before k)) (sym (append-nil (called_before k))) zip
  made_next k (Connect output value) at zip = subst (λ (vs : List Invocation). AllZip IsMadeAt vs (known_before k)) (sym (append-nil (called_before k))) zip
  made_next k (Call name inst gives) at zip =
      let v : Invocation = record { name = name; inst = inst; gives = gives } in
      all_zipped_more IsMadeAt (called_before k) (known_before k) v (resolved earlier c (known_before k) v) zip (record { k = k; s = Call name inst gives; at = at; only = refl; is = refl })
  made_next k (Both name made params gives) at zip =
      let v : Invocation = record { name = name; inst = name; gives = gives } in
      all_zipped_more IsMadeAt (called_before k) (known_before k) v (resolved earlier c (known_before k) v) zip (record { k = k; s = Both name made params gives; at = at; only = refl; is = refl })

  pub made_to : (k : ℕ) → k ≤ length c.body → AllZip IsMadeAt (called_before k) (known_before k)
  made_to zero within = tt
  made_to (suc k) within =
      let s = get_or c.body k (New [] [] []) in
      let below : k < length c.body = omega (arith, within) in
      let at : slice_get c.body k ≡ Some s = slice_get-get_or c.body k (New [] [] []) below in
      let grown : called_before k ++ invocations_at s ≡ called_before (suc k) = sym (flat_next invocations_at c.body k s at) ∙ ap called_before (add-one k) in
      let cut : resolved_after earlier c (known_before k) (invocations_at s) ≡ known_before (suc k) = sym (resolved_cut earlier c [] (called_before k) (invocations_at s)) ∙ ap (resolved_after earlier c []) grown in
      subst (λ (vs : List Invocation). AllZip IsMadeAt vs (known_before (suc k))) grown
      (subst (λ (rs : List Resolved). AllZip IsMadeAt (called_before k ++ invocations_at s) rs) cut (made_next k s at (made_to k (omega (arith, within)))))

  pub all_made : AllZip IsMadeAt (whole_scope earlier c).invocations (resolved_calls earlier c)
  all_made =
      subst (λ (body : List Statement). AllZip IsMadeAt (flat_map invocations_at body) (resolved_after earlier c [] (flat_map invocations_at body))) (take-length c.body)
      (let all : length c.body ≤ length c.body = omega arith in made_to (length c.body) all)

  -- ---- what is resolved before a statement

  cut_at : (k : ℕ) → (whole_scope earlier c).invocations ≡ called_before k ++ flat_map invocations_at (drop k c.body)
  cut_at k = sym (ap (flat_map invocations_at) (take-append-drop k c.body)) ∙ flat_map-append invocations_at (take k c.body) (drop k c.body)

  -- it stays among all that is resolved
  pub known_stays : (k : ℕ) (name : Text) (call : Use) → call_named (known_before k) name ≡ Some call → call_named (resolved_calls earlier c) name ≡ Some call
  known_stays k name call is =
      let m = resolved_more earlier c (known_before k) (flat_map invocations_at (drop k c.body)) in
      let cut : resolved_calls earlier c ≡ known_before k ++ m.0 =
      ap (resolved_after earlier c []) (cut_at k) ∙ resolved_cut earlier c [] (called_before k) (flat_map invocations_at (drop k c.body)) ∙ m.1 in
      ap (λ (rs : List Resolved). call_named rs name) cut ∙ named_more (known_before k) m.0 name call is

  named_stays : (k : ℕ) (name : Text) (w : Invocation) → invocation_named (called_before k) name ≡ Some w → invocation_named (whole_scope earlier c).invocations name ≡ Some w
  named_stays k name w is =
      let rest = flat_map invocations_at (drop k c.body) in
      ap (λ (vs : List Invocation). invocation_named vs name) (cut_at k)
      ∙ find-append (λ (v : Invocation). bytes_eq v.name name) (called_before k) rest
      ∙ ap (λ (o : Option Invocation). option_or o (invocation_named rest name)) is

  made_inst : (v : Invocation) (r : Resolved) → IsMadeAt v r → (r.name ≡ v.name) × (r.call.inst ≡ v.inst)
  made_inst v r m = (sym (ap (λ (x : Resolved). x.name) m.is), sym (ap (λ (x : Resolved). x.call.inst) m.is))

  abbrev IsCallOf : Text → Invocation → List Resolved → Type 0
  IsCallOf name w rs = (call : Use) × (call_named rs name ≡ Some call) × (call.inst ≡ w.inst)

  find_made : (vs : List Invocation) (rs : List Resolved) (name : Text) (w : Invocation) → AllZip IsMadeAt vs rs → invocation_named vs name ≡ Some w → IsCallOf name w rs
  find_made [] rs name w zip is = absurd (none-some w is)
  find_made (v ∷ vs) [] name w zip is = absurd zip
  find_made (v ∷ vs) (r ∷ rs) name w zip is = by (bytes_eq v.name name) refl is (find_made vs rs name w zip.1)
    where
      test : (b : Bool) → bytes_eq v.name name ≡ b → bytes_eq r.name name ≡ b
      test b is = ap (λ (n : Text). bytes_eq n name) (made_inst v r zip.0).0 ∙ is

      by : (b : Bool) → bytes_eq v.name name ≡ b → cond b (Some v) (invocation_named vs name) ≡ Some w → (invocation_named vs name ≡ Some w → IsCallOf name w rs) → IsCallOf name w (r ∷ rs)
      by true same e later =
          (r.call, ap (λ (b : Bool). if b then Some r.call else call_named rs name) (test true same), (made_inst v r zip.0).1 ∙ ap (λ (x : Invocation). x.inst) (same_Some v w e))
      by false other e later = let m = later e in (m.0, ap (λ (b : Bool). if b then Some r.call else call_named rs name) (test false other) ∙ m.1, m.2)

  -- ---- values

  -- an invocation that is known before a statement, as it is resolved, also among more that is
  pub named_call : (k : ℕ) → k ≤ length c.body → (rs : List Resolved) → ((name : Text) (call : Use) → call_named (known_before k) name ≡ Some call → call_named rs name ≡ Some call) →
      (invocation port : Text) → IsKnownValue (scope_after earlier c (take k c.body)) (OutputValue invocation port) →
      (call : Use) × (call_named rs invocation ≡ Some call) × (option_map_or (λ (v : Invocation). v.inst) (invocation_named (whole_scope earlier c).invocations invocation) [] ≡ call.inst)
  named_call k within rs extends invocation port known =
      let scope = scope_after earlier c (take k c.body) in
      let r = some_there (result_of scope invocation port) known in
      option_and_then_some (λ (v : Invocation). result_at scope v port) (invocation_named (called_before k) invocation) r.0 r.1 (λ w named result.
      let m = find_made (called_before k) (known_before k) invocation w (made_to k within) named in
      (m.0, extends invocation m.0 m.1, ap (λ (o : Option Invocation). option_map_or (λ (v : Invocation). v.inst) o []) (named_stays k invocation w named) ∙ sym m.2))

  module _ (registers : Registers) (path : Path) (feeds : Use → Text → ℕ → Bool) (height : ℕ) (trace : Trace) (row : Row) (k : ℕ) (within : k ≤ length c.body) where
    -- a value that is known before a statement is read from the same port, also among more that is resolved
    pub reads_same : (rs : List Resolved) → ((name : Text) (call : Use) → call_named (known_before k) name ≡ Some call → call_named rs name ≡ Some call) →
        (value : ValueTree) → IsKnownValue (scope_after earlier c (take k c.body)) value →
        source_value (look path row) (lowered_value (lowering_with earlier c registers) value) ≡ source_in (run_at path feeds height trace) row (source_of rs value)
    reads_same rs extends (InputValue name) known = refl
    reads_same rs extends (tree.Literal width value) known = refl
    reads_same rs extends (OutputValue invocation port) known =
        let m = named_call k within rs extends invocation port known in
        ap (λ (inst : Text). row (dotted (full_name path inst) port)) m.2
        ∙ ap row (sym (full_name-append path m.0.inst port))
        ∙ sym (ap (λ (o : Option Use). source_in (run_at path feeds height trace) row (output_of_call o port)) m.1)
