-- F8, argument by argument.
use Rattle.std.proofs.Common.{◌≡◌, ℕ, ◌+◌, ◌<◌, ◌⊎◌, inl, inr, min, List, length, map, slice_get, Option, Some, None, false, ◌≤◌, refl, sym, ap, subst, ◌∙◌, arith}
use Rattle.std.specs.Option.{IfSome, MatchOption, is_some}
use Rattle.std.proofs.lemmas.Bool.{cases_lt}
use Rattle.std.proofs.lemmas.Option.{same_Some, slice_get_within}
use Rattle.hw_names.specs.Name.{Text}
use Rattle.fil_ast.specs.Evidence.{IsMissingOffset}
use Rattle.fil_ast.specs.Scope.{Scope}
use Rattle.fil_ast.specs.Signature as tree
use Rattle.fil_ast.specs.Timeline.{Covers, ReadsAvailable, interval_at, ReadsArgument}
use Rattle.fil_ast.specs.Tree.{Giving, TimeAt, ValueTree, value_tree}
use Rattle.fil_ast.specs.declared.tree.Value.{Value}
use Rattle.fil_sig.specs.Seen.{seen_port}
use Rattle.fil_sig.specs.declared.time_sig.SigPort.{SigPort}
use Rattle.fil_rules.specs.inside.Available.{IsMissingIn}
use Rattle.fil_place.proofs.GeneralLemmas.{mapped_at, unmapped}

module _ (names : List Text) (scope : Scope) (times : List TimeAt) (ports : List SigPort) (args : List Value) where
  -- the argument is available in its port's need
  abbrev pub Reads : Value → SigPort → Type 0
  Reads arg port = IfSome (interval_at times (seen_port port)) (Covers scope (value_tree names arg))

  abbrev pub ReadsBelow : ℕ → Type 0
  ReadsBelow n = (k : ℕ) (arg : Value) (port : SigPort) → k < n → slice_get args k ≡ Some arg → slice_get ports k ≡ Some port → Reads arg port

  pub reads_more : (n : ℕ) (a : Value) (p : SigPort) → slice_get args n ≡ Some a → slice_get ports n ≡ Some p → ReadsBelow n → Reads a p → ReadsBelow (n + 1)
  reads_more n a p a_at p_at below here k arg port within arg_at port_at = by (cases_lt k n)
    where
      by : (k < n) ⊎ (n ≤ k) → Reads arg port
      by (inl earlier) = below k arg port earlier arg_at port_at
      by (inr later) =
          let same : n ≡ k = omega arith in
          let same_arg = same_Some a arg (sym a_at ∙ ap (slice_get args) same ∙ arg_at) in
          let same_port = same_Some p port (sym p_at ∙ ap (slice_get ports) same ∙ port_at) in
          let there : Reads arg p = subst (λ (v : Value). Reads v p) same_arg here in
          subst (λ (q : SigPort). Reads arg q) same_port there

  module _ (sig : tree.Signature) (is : sig.ins ≡ map seen_port ports) where
    abbrev gives : Giving
    gives = record { times = times; args = map (value_tree names) args }

    reads_at : (k : ℕ) → ((arg : Value) (port : SigPort) → slice_get args k ≡ Some arg → slice_get ports k ≡ Some port → Reads arg port) → ReadsArgument scope sig gives k
    reads_at k each arg port arg_at port_at =
        let a = unmapped (value_tree names) args k arg arg_at in
        let p = unmapped seen_port ports k port (ap (λ (ps : List tree.SigPort). slice_get ps k) (sym is) ∙ port_at) in
        let there : IfSome (interval_at times (seen_port p.0)) (Covers scope arg) =
        subst (λ (v : ValueTree). IfSome (interval_at times (seen_port p.0)) (Covers scope v)) a.2 (each a.0 p.0 a.1 p.1) in
        subst (λ (q : tree.SigPort). IfSome (interval_at times q) (Covers scope arg)) p.2 there

    pub reads_all : (n : ℕ) → n ≡ min (length args) (length ports) → ReadsBelow n → ReadsAvailable scope sig gives
    reads_all n all below k =
        reads_at k (λ arg port arg_at port_at.
        (let in_args = slice_get_within args k arg arg_at in
        let in_ports = slice_get_within ports k port port_at in
        below k arg port (omega arith) arg_at port_at))

    pub missing_here : (n : ℕ) (a : Value) (p : SigPort) (offset : ℕ) → slice_get args n ≡ Some a → slice_get ports n ≡ Some p → ReadsBelow n
        → IsMissingIn scope (value_tree names a) (interval_at times (seen_port p)) offset → IsMissingOffset scope sig gives offset
    missing_here n a p offset a_at p_at below missing = record {
      number = n;
      before = λ k earlier. reads_at k (λ arg port arg_at port_at. below k arg port earlier arg_at port_at);
      arg = value_tree names a;
      given = mapped_at (value_tree names) args n a a_at;
      port = seen_port p;
      for = ap (λ (ps : List tree.SigPort). slice_get ps n) is ∙ mapped_at seen_port ports n p p_at;
      need = missing.need;
      is_need = missing.is_need;
      from = missing.from;
      to = missing.to;
      missing = missing.missing;
      least = missing.least;
    }

-- what a look for a missing offset tells
pub told_some : (P : Type 0) (Q : ℕ → Type 0) (r : Option ℕ) (Goal : Option ℕ → Type 0) → MatchOption r P Q → ((offset : ℕ) → Q offset → Goal (Some offset)) → (r ≡ None → ⊥) → Goal r
told_some P Q None Goal told gives some = absurd (some refl)
told_some P Q (Some offset) Goal told gives some = gives offset told

pub told_none : (P : Type 0) (Q : ℕ → Type 0) (r : Option ℕ) → MatchOption r P Q → r ≡ None → P
told_none P Q None told is = told
told_none P Q (Some offset) told is = absurd (cc)

pub none_of : (r : Option ℕ) → is_some r ≡ false → r ≡ None
none_of None e = refl
none_of (Some x) e = absurd (cc)
