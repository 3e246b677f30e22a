use Rattle.std.proofs.Common.{◌≡◌, List, All, subst, sym, ◌∙◌}
use Rattle.std.proofs.lemmas.Slice.Eq.{bytes_eq-Decides}
use Rattle.cal_ast.specs.Naming.{DoneNamesKnown, IsKnownPort}
use Rattle.cal_ast.specs.Tree.{PortName, done_tree, group_tree}
use Rattle.cal_place.specs.Around.{comp_at, design_at, names_at}
use Rattle.cal_rules.proofs.NamingLemmas.{done_known, done_reads}
use Rattle.cal_rules.proofs.TestLemmas.{told_no}
use Rattle.cal_rules.proofs.naming.done_names_known.Goals as goal

pub text-requires : goal.text-requires
text-requires c = c.requires.numbers.0

pub text-requires-2 : goal.text-requires-2
text-requires-2 c = c.requires.group.name

pub are_known-requires : goal.are_known-requires
are_known-requires c = c.requires.reads.numbers

pub returns-then-eq : goal.returns-then-eq
returns-then-eq c =
    let p = c.args.place.now in
    let g = group_tree (names_at p) c.args.group.now in
    let d = done_tree (names_at p) c.args.done.now in
    let A : List PortName → Type 0 = All (IsKnownPort (design_at p) (comp_at p)) in
    let told = c.are_known.ensures in
    let reads = c.requires.reads.ports in
    let same = (bytes_eq-Decides c.text.result.now c.text-2.result.now).0 (sym c.eq.ensures ∙ c.if-eq.true) in
    let named : d.group ≡ g.name = sym c.text.ensures ∙ same ∙ c.text-2.ensures in (
      λ yes'. done_known (design_at p) (comp_at p) g d named (subst A reads (told.0 yes')),
      λ known. told.1 (subst A (sym reads) (done_reads (design_at p) (comp_at p) g d known)),
    )

pub returns-else-eq : goal.returns-else-eq
returns-else-eq c =
    let p = c.args.place.now in
    let g = group_tree (names_at p) c.args.group.now in
    let d = done_tree (names_at p) c.args.done.now in
    told_no (DoneNamesKnown (design_at p) (comp_at p) g d) c.eq.result c.if-eq.false (λ known.
    let same = c.text.ensures ∙ known.group ∙ sym c.text-2.ensures in
    let bad = sym c.if-eq.false ∙ c.eq.ensures ∙ (bytes_eq-Decides c.text.result.now c.text-2.result.now).1 same in
    absurd (cc))
