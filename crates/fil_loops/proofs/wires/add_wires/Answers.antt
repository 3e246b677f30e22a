use Rattle.std.proofs.Common.{List, refl, sym, subst}
use Rattle.fil_ast.specs.Tree.{component_tree}
use Rattle.fil_loops.specs.Wired.{IsWired}
use Rattle.fil_loops.specs.Wiring.{ShowInsides, TellsLoop}
use Rattle.fil_loops.specs.declared.wires.Wired.{Wired}
use Rattle.fil_loops.specs.declared.wires.WireEnd.{WireEnd}
use Rattle.fil_loops.specs.declared.inside.Inside.{Inside}
use Rattle.fil_loops.proofs.WiredLemmas.{loop_stays, no_loop_more, own_loop, insides_more}
use Rattle.fil_loops.proofs.wires.add_wires.Goals as goal

pub returns-in-Looped : goal.returns-in-Looped
returns-in-Looped c comps place earlier kept wired =
    let W : Wired → Type 0 = IsWired c.args.place.now.names.now comps in
    loop_stays comps (component_tree c.args.place.now.names.now c.args.place.now.comp.now) _ _ (subst W c.in-Looped.is wired)

pub returns-in-Ok : goal.returns-in-Ok
returns-in-Ok c comps place earlier kept wired =
    let tree = component_tree c.args.place.now.names.now c.args.place.now.comp.now in
    let W : Wired → Type 0 = IsWired c.args.place.now.names.now comps in
    let free = subst W c.in-Free.is wired in
    let S : List Inside → Type 0 = ShowInsides comps in
    let shows = subst S (sym c.deref.ensures.value) free.0 in
    let more = insides_more comps tree c.in-Free.insides.items c.in-Ok.own free.0 (c.in-Ok.ensures.inside comps place shows earlier kept) in
    let M : List Inside → Type 0 = ShowInsides _ in
    (subst M (sym c.in_ok-push-in-Ok.ensures.items) more, no_loop_more comps tree free.1 (c.in-Ok.ensures.kept comps place shows earlier kept))

pub returns-in-Err-Loop : goal.returns-in-Err-Loop
returns-in-Err-Loop c comps place earlier kept wired =
    let tree = component_tree c.args.place.now.names.now c.args.place.now.comp.now in
    let W : Wired → Type 0 = IsWired c.args.place.now.names.now comps in
    let free = subst W c.in-Free.is wired in
    let S : List Inside → Type 0 = ShowInsides comps in
    let shows = subst S (sym c.deref.ensures.value) free.0 in
    let T : WireEnd → Type 0 = TellsLoop comps tree in
    let told = subst T c.in-Err-Loop.field-0-is (c.in-Err-Loop.ensures.cycle comps place shows earlier kept) in
    own_loop comps tree _ _ refl free.1 told.0 told.1 told.2 told.3
