use Rattle.std.proofs.Common.{◌<◌, ◌∙◌, ℕ, List, All, IfOk, ap, sym, subst₂}
use Rattle.hw_graph.specs.Groups.{IsGathered}
use Rattle.hw_graph.specs.declared.groups.Entry.{Entry}
use Rattle.ver_print.specs.inside.Drivers.{entries_of}
use Rattle.ver_print.proofs.DriverLemmas.{entries_below}
use Rattle.ver_print.proofs.drives.drivers.Goals as goal

pub gather-requires-clause-in_range : goal.gather-requires-clause-in_range
gather-requires-clause-in_range c =
    let net = c.args.net.now in
    let are = c.deref-2.ensures.value ∙ c.in_ok-entries.ensures ∙ ap (entries_of 0) c.deref.ensures.value in
    subst₂ (λ (es : List Entry) (n : ℕ). All (λ (e : Entry). e.key < n) es) (sym are) (sym c.len.ensures.len) (entries_below net.names 0 net.sets.items c.requires.sets)

pub returns : goal.returns
returns c =
    let net = c.args.net.now in
    let are = c.deref-2.ensures.value ∙ c.in_ok-entries.ensures ∙ ap (entries_of 0) c.deref.ensures.value in
    subst₂ (λ (es : List Entry) (n : ℕ). IfOk c.gather.result (IsGathered es n)) are c.len.ensures.len c.gather.ensures
