use Rattle.std.proofs.Common.{◌≢◌, ◌<◌, Result, Ok, Err, List, [], ◌∷◌, length, refl, subst, arith}
use Rattle.std.specs.Prelude.{IfOk}
use Rattle.std.proofs.lemmas.List.{length-map}
use Rattle.net_core.specs.Netlist.{netlist_of}
use Rattle.net_core.specs.declared.net.Net.{Net}
use Rattle.net_guard.proofs.TextLemmas.{keeps_text}
use Rattle.net_guard.specs.Folded.{HasFoldedGuards}
use Rattle.net_guard.specs.Simplified.{IsSimplified}
use Rattle.net_text.specs.Names.{HasText}
use Rattle.cal_ast.specs.Tree as calyx
use Rattle.fil_ast.specs.Rules.{FilRules}
use Rattle.fil_ast.specs.Tree.{Design, design_of}
use Rattle.fil_ast.specs.declared.tree.FilDesign.{FilDesign}
use Rattle.fil_promise.specs.Refines.{Refines}
use Rattle.fil_lower.specs.Lowers.{Lowers}
use Rattle.fil_parse.specs.Written.{DesignIsWritten}
use Rattle.net_flat.specs.FlatTop.{IsFlatTop}
use Rattle.fil_net.proofs.PlainLemmas.{written_plain}
use Rattle.fil_net.proofs.RefineLemmas.{flattened_refine}
use Rattle.fil_net.proofs.SimplifyLemmas.{simplified_refine}
use Rattle.fil_net.proofs.TextLemmas.{flattened_have_text}
use Rattle.fil_net.proofs.net.net_of.Goals as goal

-- what has both of two clauses
ok_both : {X E : Type 0} (P Q R : X → Type 0) → ((x : X) → P x → Q x → R x) → (r : Result X E) → IfOk r P → IfOk r Q → IfOk r R
ok_both P Q R more (Ok x) p q = more x p q
ok_both P Q R more (Err e) p q = tt

not_empty : {X : Type 0} (xs : List X) → xs ≢ [] → 0 < length xs
not_empty [] some = absurd (some refl)
not_empty (x ∷ xs) some = omega arith

pub flatten-requires-clause-some : goal.flatten-requires-clause-some
flatten-requires-clause-some c =
    let comps = design_of c.args.ok.now in
    let low = c.in_ok-wired.wired.design in
    let lowers = c.in_ok-wired.ensures.lowers (written_plain comps c.requires) in
    omega (arith, not_empty comps c.requires.0, lowers.count, length-map low.comps.items (calyx.component_tree low.names))

pub flatten-requires-clause-plain : goal.flatten-requires-clause-plain
flatten-requires-clause-plain c = (c.in_ok-wired.ensures.lowers (written_plain (design_of c.args.ok.now) c.requires)).plain

pub flatten-requires-clause-wired : goal.flatten-requires-clause-wired
flatten-requires-clause-wired c = (c.in_ok-wired.ensures.lowers (written_plain (design_of c.args.ok.now) c.requires)).wired

pub simplify-requires : goal.simplify-requires
simplify-requires c = c.in_ok-flat.ensures.numbers

module _ (comps : Design) (design : calyx.Design) (rules : FilRules comps) (written : DesignIsWritten comps) (lowers : Lowers comps design) where
  abbrev IsMade : Net → Net → Type 0
  IsMade flat net = IsSimplified (netlist_of flat) (netlist_of net) × HasFoldedGuards (netlist_of net)

  refined : (flat net : Net) → IsFlatTop design flat → IsMade flat net → Refines comps (netlist_of net)
  refined flat net is made = simplified_refine comps (netlist_of flat) (netlist_of net) made.0 (flattened_refine comps design flat rules lowers is)

  texted : (flat net : Net) → IsFlatTop design flat → IsMade flat net → HasText (netlist_of net)
  texted flat net is made = keeps_text (netlist_of flat) (netlist_of net) made.0 made.1 (flattened_have_text comps design flat rules written lowers is)

pub returns-clause-refines : goal.returns-clause-refines
returns-clause-refines c =
    let rules = subst (λ (d : FilDesign). FilRules (design_of d)) c.design-design.ensures.same c.design-design.ensures.rules in
    let comps = design_of c.args.ok.now in let flat = c.in_ok-flat.flat in
    let lowers = c.in_ok-wired.ensures.lowers (written_plain comps c.requires) in
    ok_both (λ net. IsSimplified (netlist_of flat) (netlist_of net)) (λ net. HasFoldedGuards (netlist_of net)) (λ net. Refines comps (netlist_of net))
    (λ net simplified folded. refined comps (calyx.design_of c.in_ok-wired.wired.design) rules c.requires lowers flat net c.in_ok-flat.ensures (simplified, folded)) c.simplify.result c.simplify.ensures.simplified c.simplify.ensures.folded

pub returns-clause-text : goal.returns-clause-text
returns-clause-text c =
    let rules = subst (λ (d : FilDesign). FilRules (design_of d)) c.design-design.ensures.same c.design-design.ensures.rules in
    let comps = design_of c.args.ok.now in let flat = c.in_ok-flat.flat in
    let lowers = c.in_ok-wired.ensures.lowers (written_plain comps c.requires) in
    ok_both (λ net. IsSimplified (netlist_of flat) (netlist_of net)) (λ net. HasFoldedGuards (netlist_of net)) (λ net. HasText (netlist_of net))
    (λ net simplified folded. texted comps (calyx.design_of c.in_ok-wired.wired.design) rules c.requires lowers flat net c.in_ok-flat.ensures (simplified, folded)) c.simplify.result c.simplify.ensures.simplified c.simplify.ensures.folded
