-- What drives a port, as a Verilog expression: it has the value of the first assignment whose guard is true, else 0.
use Rattle.std.proofs.Common.{◌≡◌, ℕ, ◌<◌, Bool, true, false, cond, ◌&&◌, List, [], ◌∷◌, inl, inr, refl, ap, ap₂, ◌∙◌}
use Rattle.std.specs.Prelude.{Option, None, Some, bytes_eq, if◌then◌else◌}
use Rattle.std.proofs.lemmas.Nat.{pow_pos}
use Rattle.std.proofs.lemmas.Slice.Eq.{bytes_eq-Decides}
use Rattle.hw_bits.proofs.WidthLemmas.{low_bits-of_lt}
use Rattle.hw_graph.proofs.MemberLemmas.{In}
use Rattle.hw_names.specs.Name.{Text}
use Rattle.net_core.specs.Guard.{GuardTree, guard_holds, holds, source_value}
use Rattle.net_core.specs.NetRun.{values_for}
use Rattle.net_core.specs.Netlist.{SetLine}
use Rattle.net_core.specs.Rules.{PortLine, literal_fits, port_width}
use Rattle.net_core.specs.declared.net.Src.{Src}
use Rattle.ver_lang.specs.NetModule.{chain, guard_expr, guarded, sets_to, source_expr}
use Rattle.ver_lang.specs.Size.{Widths, size}
use Rattle.ver_lang.specs.Tree.{Expr, Literal}
use Rattle.ver_lang.specs.Value.{Cycle, bit, chosen, value}
use Rattle.ver_runs.specs.Rows.{first_of}
use Rattle.ver_runs.proofs.GuardValueLemmas.{Gives, IsSound, guard_gives, source_gives}

chosen_by : (p : Bool) (a b : Option ℕ) → chosen (Some (bit p)) a b ≡ (if p then a else b)
chosen_by true a b = refl
chosen_by false a b = refl

value_by : (p : Bool) (v w : ℕ) → (if p then Some v else Some w) ≡ Some (if p then v else w)
value_by true v w = refl
value_by false v w = refl

first_by : (p : Bool) (v : ℕ) (vs : List ℕ) → (if p then v else first_of vs) ≡ first_of (if p then v ∷ vs else vs)
first_by true v vs = refl
first_by false v vs = refl

module _ (widths : Widths) (now : Cycle) (ports : List PortLine) (fit : (x : Text) → port_width ports x ≡ 1 → now.row x < 2) where
  -- a guard that is there is sound
  abbrev pub IsSoundOption : Option (GuardTree Text) → Type 0
  IsSoundOption None = Unit {0}
  IsSoundOption (Some g) = IsSound widths now ports fit g

  pub record IsSoundSet (a : SetLine) : Type 0 where
    pub guard : IsSoundOption a.guard
    pub literal : literal_fits a.src ≡ true

  guarded_gives : (g : Option (GuardTree Text)) (s : Src Text) (others : Expr) (v : ℕ) → IsSoundOption g → literal_fits s ≡ true → Gives widths now others v
      → Gives widths now (guarded g (source_expr s) others) (if guard_holds now.row g then source_value now.row s else v)
  guarded_gives None s others v sound literal gives w = source_gives widths now s literal w
  guarded_gives (Some g) s others v sound literal gives w =
      let p : Bool = holds now.row g in
      let a : Option ℕ = value widths now w (source_expr s) in
      let b : Option ℕ = value widths now w others in
      ap (λ (c : Option ℕ). chosen c a b) (guard_gives widths now ports fit g sound (size widths (guard_expr g)))
      ∙ chosen_by p a b
      ∙ ap₂ (λ (x y : Option ℕ). if p then x else y) (source_gives widths now s literal w) (gives w)
      ∙ value_by p (source_value now.row s) v

  -- an assignment, where it is one of the port's
  one_gives : (mine : Bool) (a : SetLine) (last : Expr) (sets : List SetLine) (vs : List ℕ) → (mine ≡ true → IsSoundSet a) → Gives widths now (chain last sets) (first_of vs)
      → Gives widths now (chain last (cond mine (a ∷ sets) sets)) (first_of (if mine && guard_holds now.row a.guard then source_value now.row a.src ∷ vs else vs))
  unfolding chain
  one_gives true a last sets vs sound gives w =
      let here = sound refl in
      guarded_gives a.guard a.src (chain last sets) (first_of vs) here.guard here.literal gives w
      ∙ ap (λ (v : ℕ). Some v) (first_by (guard_holds now.row a.guard) (source_value now.row a.src) vs)
  one_gives false a last sets vs sound gives w = gives w

  pub chain_gives : (port : Text) (width : ℕ) (sets : List SetLine) → ((a : SetLine) → a.dst ≡ port → In sets a → IsSoundSet a)
      → Gives widths now (chain (Literal width 0) (sets_to port sets)) (first_of (values_for port now.row sets))
  unfolding chain
  chain_gives port width [] sound w = ap (λ (v : ℕ). Some v) (low_bits-of_lt width 0 (pow_pos width))
  chain_gives port width (a ∷ sets) sound w =
      one_gives (bytes_eq a.dst port) a (Literal width 0) (sets_to port sets) (values_for port now.row sets)
      (λ is. sound a ((bytes_eq-Decides a.dst port).0 is) (inl refl))
      (chain_gives port width sets (λ b named later. sound b named (inr later))) w
