-- F3 in the scope of a whole component: arguments have the widths of the ports that they are given to, and so has what outputs are connected to.
use Rattle.std.proofs.Common.{◌≡◌, ℕ, List, [], ◌++◌, flat_map, take, drop, get_or, slice_get, All, Option, Some, option_map, sym, ap, subst, ◌∙◌, arith}
use Rattle.std.specs.Option.{IfSome, option_and_then}
use Rattle.std.specs.Prelude.{Contains, bytes_eq}
use Rattle.std.proofs.lemmas.List.{take-append-drop}
use Rattle.std.proofs.lemmas.List.Concat.{flat_map-append}
use Rattle.std.proofs.lemmas.List.Elements.{All-cons, All-contains, All-nil}
use Rattle.std.proofs.lemmas.Option.{option_and_then_some, slice_get-get_or}
use Rattle.hw_names.specs.Name.{Text}
use Rattle.fil_ast.specs.Items.{scope_after}
use Rattle.fil_ast.specs.Rules.{F1, FilRules}
use Rattle.fil_ast.specs.Scope.{Invocation, Result, Scope, instance_named, instance_signature, instances_at, invocation_named, invocations_at, output_of, result_at, result_of, sig_port_named, signature_in}
use Rattle.fil_ast.specs.Signature.{SigPort, Signature}
use Rattle.fil_ast.specs.Tree.{Component, Design, Statement, New, Call, Both, Connect, ValueTree, InputValue, OutputValue, Literal}
use Rattle.fil_ast.specs.Typing.{GivesWidths, LiteralFits, value_width}
use Rattle.fil_ast.specs.Wires.{whole_scope}
use Rattle.fil_share.specs.Instances.{signature_of}
use Rattle.fil_share.proofs.ListLemmas.{All-flat_map, Contains-at}
use Rattle.fil_share.proofs.MakesLemmas.{at_statement}
use Rattle.fil_share.proofs.OwnLemmas.{KeepsNames, cut_before, names_of, same_meaning, some_there}
use Rattle.fil_lower.proofs.AvailableLemmas.{mapped_from}
use Rattle.fil_lower.proofs.CallLemmas.{both_callee, call_callee}
use Rattle.fil_lower.proofs.ResolvedLemmas.{find_more}
use Rattle.fil_lower.proofs.TimedAsLemmas.{place_of}

-- the value has this width in the scope, and fits it if it is a literal
pub record IsOfWidth (scope : Scope) (value : ValueTree) (width : ℕ) : Type 0 where
  pub wide : value_width scope value ≡ Some width
  pub fits : LiteralFits value

-- each argument has the width of its port
abbrev pub GivesWide : Scope → Invocation → Type 0
GivesWide scope v =
    (sig : Signature) (k : ℕ) (arg : ValueTree) (port : SigPort) → instance_signature scope v.inst ≡ Some sig → slice_get v.gives.args k ≡ Some arg → slice_get sig.ins k ≡ Some port → IsOfWidth scope arg port.width

module _ (comps : Design) (rules : FilRules comps) (n : ℕ) (c : Component) (here : slice_get comps n ≡ Some c) where
  abbrev earlier : Design
  earlier = take n comps

  abbrev scope : Scope
  scope = whole_scope earlier c

  abbrev before : ℕ → Scope
  before k = scope_after earlier c (take k c.body)

  named : KeepsNames earlier c
  named = names_of comps rules n c here

  -- what a result of an invocation is before a statement it is in the whole component
  result_stays : (k : ℕ) (s : Statement) → slice_get c.body k ≡ Some s → (invocation port : Text) (r : Result) → result_of (before k) invocation port ≡ Some r → result_of scope invocation port ≡ Some r
  result_stays k s at invocation port r is =
      let calls = flat_map invocations_at (take k c.body) in
      let more = flat_map invocations_at (drop k c.body) in
      let cut : calls ++ more ≡ scope.invocations = sym (flat_map-append invocations_at (take k c.body) (drop k c.body)) ∙ ap (flat_map invocations_at) (take-append-drop k c.body) in
      option_and_then_some (λ (v : Invocation). result_at (before k) v port) (invocation_named calls invocation) r is (λ v named_v at_v.
      let whole_named : invocation_named scope.invocations invocation ≡ Some v =
      sym (ap (λ (vs : List Invocation). invocation_named vs invocation) cut) ∙ find_more (λ (w : Invocation). bytes_eq w.name invocation) calls more v named_v in
      mapped_from (λ (p : SigPort). record { invocation = v; port = p }) (option_and_then (λ (s : Signature). sig_port_named s.outs port) (instance_signature (before k) v.inst)) r at_v (λ p found_p made.
      option_and_then_some (λ (s : Signature). sig_port_named s.outs port) (instance_signature (before k) v.inst) p found_p (λ sig signed found.
      option_and_then_some (signature_of earlier) (instance_named (flat_map instances_at (take k c.body)) v.inst) sig signed (λ i is_i signed_i.
      let same : instance_signature scope v.inst ≡ instance_signature (before k) v.inst =
      sym (same_meaning earlier c named (flat_map instances_at (take k c.body)) (flat_map instances_at (drop k c.body)) v.inst (cut_before earlier c named k s at) (i, is_i)) in
      ap (option_and_then (λ (w : Invocation). result_at scope w port)) whole_named
      ∙ ap (λ (o : Option Signature). option_map (λ (p : SigPort). record { invocation = v; port = p }) (option_and_then (λ (s : Signature). sig_port_named s.outs port) o)) same
      ∙ at_v))))

  width_stays : (k : ℕ) (s : Statement) → slice_get c.body k ≡ Some s → (value : ValueTree) (width : ℕ) → value_width (before k) value ≡ Some width → value_width scope value ≡ Some width
  width_stays k s at (InputValue name) width is = is
  width_stays k s at (Literal w x) width is = is
  width_stays k s at (OutputValue invocation port) width is =
      mapped_from (λ (r : Result). r.port.width) (result_of (before k) invocation port) width is (λ r found same.
      ap (option_map (λ (r : Result). r.port.width)) (result_stays k s at invocation port r found) ∙ ap Some same)

  gives_wide : (k : ℕ) (s : Statement) → slice_get c.body k ≡ Some s → (v : Invocation) (o : Option Signature) → o ≡ instance_signature scope v.inst → IfSome o (λ sig. GivesWidths (before k) sig v.gives) → GivesWide scope v
  gives_wide k s at v o same gives sig j arg port signed at_arg at_port =
      let widths : GivesWidths (before k) sig v.gives = subst (λ (o : Option Signature). IfSome o (λ sig. GivesWidths (before k) sig v.gives)) (same ∙ signed) gives in
      record {
        wide = width_stays k s at arg port.width (widths.widths j arg port at_arg at_port);
        fits = All-contains LiteralFits v.gives.args arg widths.literals (Contains-at v.gives.args j arg at_arg);
      }

  gives_at : (k : ℕ) (s : Statement) → slice_get c.body k ≡ Some s → All (GivesWide scope) (invocations_at s)
  gives_at k (New name made params) at = All-nil (GivesWide scope)
  gives_at k (Connect output value) at = All-nil (GivesWide scope)
  gives_at k (Call name inst gives) at =
      All-cons (GivesWide scope) _ []
      (gives_wide k (Call name inst gives) at (record { name = name; inst = inst; gives = gives }) (instance_signature (before k) inst) (call_callee comps rules n c here k name inst gives at).same
      (at_statement comps rules n c here k (Call name inst gives) at 2 F1 (omega arith)))
      (All-nil (GivesWide scope))
  gives_at k (Both name made params gives) at =
      let keeps = at_statement comps rules n c here k (Both name made params gives) at 2 F1 (omega arith) in
      All-cons (GivesWide scope) _ []
      (gives_wide k (Both name made params gives) at (record { name = name; inst = name; gives = gives }) (signature_in earlier made params) (both_callee comps rules n c here k name made params gives at).same keeps.1)
      (All-nil (GivesWide scope))

  pub all_wide : All (GivesWide scope) scope.invocations
  all_wide = All-flat_map (GivesWide scope) invocations_at c.body (λ k d within. gives_at k (get_or c.body k d) (slice_get-get_or c.body k d within))

  -- the output of a connection, and the width of its value
  pub record ConnectsWide (output : Text) (value : ValueTree) : Type 0 where
    pub port : SigPort
    pub found : output_of scope output ≡ Some port
    pub wide : IsOfWidth scope value port.width

  pub connects_wide : (output : Text) (value : ValueTree) → Contains c.body (Connect output value) → ConnectsWide output value
  connects_wide output value has =
      let place = place_of c.body (Connect output value) has in
      let k = place.0 in
      let at = place.1 in
      let keeps = at_statement comps rules n c here k (Connect output value) at 2 F1 (omega arith) in
      let port = some_there (output_of scope output) (named.known_names k (Connect output value) at).0 in
      let same : value_width (before k) value ≡ Some port.0.width = subst (λ (o : Option SigPort). IfSome o (λ p. value_width (before k) value ≡ Some p.width)) port.1 keeps.1 in
      record { port = port.0; found = port.1; wide = record { wide = width_stays k (Connect output value) at value port.0.width same; fits = keeps.0 } }
