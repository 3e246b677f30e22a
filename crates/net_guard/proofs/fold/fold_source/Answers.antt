use Rattle.std.proofs.Common.{ap, sym, subst}
use Rattle.hw_names.specs.Name.{text_of}
use Rattle.hw_names.specs.declared.names.NameId.{NameId}
use Rattle.net_core.specs.Guard.{Reads, holds, source_tree}
use Rattle.net_core.specs.Numbers.{SourceHasNumbers}
use Rattle.net_core.specs.declared.net.Src.{Src}
use Rattle.net_guard.proofs.TopLemmas.{port_folds}
use Rattle.net_guard.specs.inside.Folding.{FoldsTo, IsFoldOf, plain_open}
use Rattle.net_guard.specs.declared.fold.Folded.{Folded}
use Rattle.net_guard.specs.declared.tops.Core.TheVariants as cores
use Rattle.net_guard.proofs.fold.fold_source.Goals as goal

pub returns-in-Lit : goal.returns-in-Lit
returns-in-Lit c = λ names has look. ap (λ (s : Src NameId). holds look (Reads (source_tree (text_of names) s))) c.in-Lit.is

pub returns-in-Port : goal.returns-in-Port
returns-in-Port c = λ names has.
    let N : Src NameId → Type 0 = SourceHasNumbers names in
    let P : Src NameId → Type 0 = λ s. IsFoldOf names (Reads (source_tree (text_of names) s)) (plain_open (cores.Read s)) in
    let F : Folded → Type 0 = FoldsTo names (Reads (source_tree (text_of names) c.args.src)) in
    subst F (sym c.plain.ensures) (subst P (sym c.in-Port.is) (port_folds names c.in-Port.field-0 (subst N c.in-Port.is has)))
