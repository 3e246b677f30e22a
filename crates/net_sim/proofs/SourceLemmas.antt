-- The sources of the first assignments.
use Rattle.std.proofs.Common.{◌≡◌, ℕ, ◌+◌, List, [], ◌∷◌, ◌++◌, Some, None, length, refl, ap, ◌∙◌}
use Rattle.std.specs.Prelude.{slice_get, true, ◌&&◌, ◌==◌}
use Rattle.std.proofs.lemmas.Bool.{and_parts}
use Rattle.std.proofs.lemmas.List.{length_push}
use Rattle.net_core.specs.Netlist.{Netlist, SetLine}
use Rattle.net_core.specs.Rules.{IsValid, ports_of, literal_fits, each_in_guard, each_source, port_width, source_width, option_widths_agree}
use Rattle.net_sim.proofs.GrowthLemmas.{each_more}
use Rattle.net_sim.proofs.ValidLemmas.{set_keeps}
use Rattle.net_sim.specs.Compiled.{IsSource}
use Rattle.net_sim.specs.Layout.{port_names}
use Rattle.net_sim.specs.declared.plan.Source.{Source}

pub record AreSoFar (n : Netlist) (i : ℕ) (sources : List Source) : Type 0 where
  pub all : length sources ≡ i
  pub each : (k : ℕ) (a : SetLine) (s : Source) → slice_get n.sets k ≡ Some a → slice_get sources k ≡ Some s → IsSource (port_names n) a.src s

pub sources_none : (n : Netlist) → AreSoFar n 0 []
sources_none n = record { all = refl; each = λ k a s at none. let bad : None ≡ Some s = none in cc }

pub sources_more : (n : Netlist) (i : ℕ) (sources : List Source) (a : SetLine) (s : Source) → AreSoFar n i sources → slice_get n.sets i ≡ Some a → IsSource (port_names n) a.src s → AreSoFar n (i + 1) (sources ++ s ∷ [])
sources_more n i sources a s so_far at is = record {
  all = length_push sources s ∙ ap (λ k. k + 1) so_far.all;
  each =
      let is_source = λ (k : ℕ) (b : SetLine) (r : Source). IsSource (port_names n) b.src r in
      each_more is_source is_source n.sets sources a s (λ k b r has. has) (ap (slice_get n.sets) so_far.all ∙ at) is so_far.each;
}

-- the literal of an assignment fits
pub source_fits : (n : Netlist) → IsValid n → (k : ℕ) (a : SetLine) → slice_get n.sets k ≡ Some a → literal_fits a.src ≡ true
source_fits n valid k a at =
    let widths = (set_keeps n valid k a at).widths in
    let both = (and_parts (each_source literal_fits a && (port_width (ports_of n) a.dst == source_width (ports_of n) a.src)) (option_widths_agree (ports_of n) a.guard) widths).0 in
    let first = (and_parts (each_source literal_fits a) (port_width (ports_of n) a.dst == source_width (ports_of n) a.src) both).0 in
    (and_parts (each_in_guard literal_fits a.guard) (literal_fits a.src) first).1
