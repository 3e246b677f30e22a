-- What holds of each port that an assignment reads holds of what it reads under full names.
use Rattle.std.proofs.Common.{◌≡◌, ℕ, ◌^◌, Bool, true, nat_lt, List, Option, Some, None, option_map, refl, sym, ◌∙◌, inl, arith}
use Rattle.std.proofs.lemmas.Bool.{and_from}
use Rattle.std.proofs.lemmas.Bool.Decides.{Decides-eqb, nat_tests}
use Rattle.std.proofs.lemmas.Option.{same_Some}
use Rattle.hw_graph.proofs.MemberLemmas.{In, in_left, in_right}
use Rattle.hw_names.specs.Name.{Text}
use Rattle.hw_prims.specs.Table.{is_width}
use Rattle.net_core.specs.Graph.{source_ports, guard_ports, guards_ports, option_ports}
use Rattle.net_core.specs.Guard.{GuardTree, GuardTrees, Reads, Compares, Negates, AllOf, AnyOf, NoGuards, MoreGuards, source_tree}
use Rattle.net_core.specs.Rules.{PortLine, each_read, each_reads, each_in_guard, literal_fits, guard_widths_agree, guards_widths_agree, option_widths_agree}
use Rattle.net_core.specs.Rules as net
use Rattle.net_core.specs.declared.net.Src.{Src}
use Rattle.net_core.specs.declared.net.Src.TheVariants.{Port, Lit}
use Rattle.cal_ast.specs.Naming.{IsKnownPort}
use Rattle.cal_ast.specs.Ports.{width_in}
use Rattle.cal_ast.specs.Tree.{PortName, Component, Design}
use Rattle.cal_ast.specs.Typing.{IsWidth, LiteralFits, GuardAgrees, GuardsAgree, OptionAgrees}
use Rattle.cal_ast.specs.Typing as cal
use Rattle.net_flat.specs.Listing.{map_guard, map_guards}

-- a test that each literal passes, at the ports that are read
module _ {P : Type 0} (f : P → Text) (test : Src Text → Bool) (literal : (width value : ℕ) → test (Lit width value) ≡ true) where
  pub source_passes : (s : Src P) → ((p : P) → In (source_ports s) p → test (Port (f p)) ≡ true) → test (source_tree f s) ≡ true
  source_passes (Port p) each = each p (inl refl)
  source_passes (Lit width value) each = literal width value

  mutual
    guard_passes : (g : GuardTree P) → ((p : P) → In (guard_ports g) p → test (Port (f p)) ≡ true) → each_read test (map_guard f g) ≡ true
    guard_passes (Reads s) each = source_passes s each
    guard_passes (Compares op a b) each =
        and_from (test (source_tree f a)) (test (source_tree f b)) (source_passes a (λ p h. each p (in_left (source_ports a) (source_ports b) p h)))
        (source_passes b (λ p h. each p (in_right (source_ports a) (source_ports b) p h)))
    guard_passes (Negates g) each = guard_passes g each
    guard_passes (AllOf gs) each = guards_pass gs each
    guard_passes (AnyOf gs) each = guards_pass gs each

    guards_pass : (gs : GuardTrees P) → ((p : P) → In (guards_ports gs) p → test (Port (f p)) ≡ true) → each_reads test (map_guards f gs) ≡ true
    guards_pass NoGuards each = refl
    guards_pass (MoreGuards g gs) each =
        and_from (each_read test (map_guard f g)) (each_reads test (map_guards f gs)) (guard_passes g (λ p h. each p (in_left (guard_ports g) (guards_ports gs) p h)))
        (guards_pass gs (λ p h. each p (in_right (guard_ports g) (guards_ports gs) p h)))

  pub option_passes : (o : Option (GuardTree P)) → ((p : P) → In (option_ports o) p → test (Port (f p)) ≡ true) → each_in_guard test (option_map (map_guard f) o) ≡ true
  option_passes None each = refl
  option_passes (Some g) each = guard_passes g each

pub width_passes : (width : ℕ) → IsWidth width → is_width width ≡ true
width_passes width h = grind (arith, nat_tests)

module _ (design : Design) (c : Component) (f : PortName → Text) where
  -- literals fit
  pub source_fits : (s : Src PortName) → LiteralFits s → literal_fits (source_tree f s) ≡ true
  source_fits (Port p) fits = refl
  source_fits (Lit width value) fits =
      let below : nat_lt value (2 ^ width) ≡ true = grind (arith, nat_tests) in
      and_from (is_width width) (nat_lt value (2 ^ width)) (width_passes width fits.0) below

  mutual
    guard_fits : (g : GuardTree PortName) → GuardAgrees design c g → each_read literal_fits (map_guard f g) ≡ true
    guard_fits (Reads s) agrees = source_fits s agrees.0
    guard_fits (Compares op a b) agrees = and_from (literal_fits (source_tree f a)) (literal_fits (source_tree f b)) (source_fits a agrees.0) (source_fits b agrees.1)
    guard_fits (Negates g) agrees = guard_fits g agrees
    guard_fits (AllOf gs) agrees = guards_fit gs agrees
    guard_fits (AnyOf gs) agrees = guards_fit gs agrees

    guards_fit : (gs : GuardTrees PortName) → GuardsAgree design c gs → each_reads literal_fits (map_guards f gs) ≡ true
    guards_fit NoGuards agrees = refl
    guards_fit (MoreGuards g gs) agrees = and_from (each_read literal_fits (map_guard f g)) (each_reads literal_fits (map_guards f gs)) (guard_fits g agrees.0) (guards_fit gs agrees.1)

  pub option_fits : (o : Option (GuardTree PortName)) → OptionAgrees design c o → each_in_guard literal_fits (option_map (map_guard f) o) ≡ true
  option_fits None agrees = refl
  option_fits (Some g) agrees = guard_fits g agrees

  -- widths agree, where the ports have the widths that the component knows
  module _ (ports : List PortLine) (wide : (p : PortName) → IsKnownPort design c p → width_in design c p ≡ Some (net.port_width ports (f p))) where
    pub source_wide : (s : Src PortName) → ((p : PortName) → In (source_ports s) p → IsKnownPort design c p) → cal.source_width design c s ≡ Some (net.source_width ports (source_tree f s))
    source_wide (Port p) known = wide p (known p (inl refl))
    source_wide (Lit width value) known = refl

    mutual
      guard_wide : (g : GuardTree PortName) → ((p : PortName) → In (guard_ports g) p → IsKnownPort design c p) → GuardAgrees design c g → guard_widths_agree ports (map_guard f g) ≡ true
      guard_wide (Reads s) known agrees =
          let width = net.source_width ports (source_tree f s) in
          (Decides-eqb width 1).1 (same_Some width 1 (sym (source_wide s known) ∙ agrees.1))
      guard_wide (Compares op a b) known agrees =
          let at_a = net.source_width ports (source_tree f a) in
          let at_b = net.source_width ports (source_tree f b) in
          let wide_a = source_wide a (λ p h. known p (in_left (source_ports a) (source_ports b) p h)) in
          let wide_b = source_wide b (λ p h. known p (in_right (source_ports a) (source_ports b) p h)) in
          (Decides-eqb at_a at_b).1 (same_Some at_a at_b (sym wide_a ∙ agrees.2 ∙ wide_b))
      guard_wide (Negates g) known agrees = guard_wide g known agrees
      guard_wide (AllOf gs) known agrees = guards_wide gs known agrees
      guard_wide (AnyOf gs) known agrees = guards_wide gs known agrees

      guards_wide : (gs : GuardTrees PortName) → ((p : PortName) → In (guards_ports gs) p → IsKnownPort design c p) → GuardsAgree design c gs → guards_widths_agree ports (map_guards f gs) ≡ true
      guards_wide NoGuards known agrees = refl
      guards_wide (MoreGuards g gs) known agrees =
          and_from (guard_widths_agree ports (map_guard f g)) (guards_widths_agree ports (map_guards f gs)) (guard_wide g (λ p h. known p (in_left (guard_ports g) (guards_ports gs) p h)) agrees.0)
          (guards_wide gs (λ p h. known p (in_right (guard_ports g) (guards_ports gs) p h)) agrees.1)

    pub option_wide : (o : Option (GuardTree PortName)) → ((p : PortName) → In (option_ports o) p → IsKnownPort design c p) → OptionAgrees design c o → option_widths_agree ports (option_map (map_guard f) o) ≡ true
    option_wide None known agrees = refl
    option_wide (Some g) known agrees = guard_wide g known agrees
