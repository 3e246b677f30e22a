use Rattle.std.proofs.Common.{List, All, subst, sym}
use Rattle.cal_ast.specs.Naming.{IsKnownPort, NamesKnown}
use Rattle.cal_ast.specs.Tree.{PortName, assignment_tree}
use Rattle.cal_place.specs.Around.{comp_at, design_at, names_at}
use Rattle.cal_rules.proofs.NamingLemmas.{assignment_known, assignment_reads}
use Rattle.cal_rules.proofs.TestLemmas.{fails, told_no}
use Rattle.cal_rules.proofs.naming.names_known.Goals as goal

pub is_known-requires : goal.is_known-requires
is_known-requires c = c.requires.numbers.0

pub are_known-requires : goal.are_known-requires
are_known-requires c = c.requires.reads.numbers

pub returns-then-is_known : goal.returns-then-is_known
returns-then-is_known c =
    let p = c.args.place.now in
    let a = assignment_tree (names_at p) c.args.set.now in
    let A : List PortName → Type 0 = All (IsKnownPort (design_at p) (comp_at p)) in
    let told = c.are_known.ensures in
    let reads = c.requires.reads.ports in (
      λ yes'. assignment_known (design_at p) (comp_at p) a (c.is_known.ensures.0 c.if-is_known.true) (subst A reads (told.0 yes')),
      λ known. told.1 (subst A (sym reads) (assignment_reads (design_at p) (comp_at p) a known)),
    )

pub returns-else-is_known : goal.returns-else-is_known
returns-else-is_known c =
    let p = c.args.place.now in
    let a = assignment_tree (names_at p) c.args.set.now in
    told_no (NamesKnown (design_at p) (comp_at p) a) c.is_known.result c.if-is_known.false
    (λ known. fails (IsKnownPort (design_at p) (comp_at p) a.dst) c.is_known.result c.is_known.ensures c.if-is_known.false known.dst)
