use Rattle.std.proofs.Common.{◌≡◌, ℕ, List, [], ◌∷◌, Option, refl, sym, ap, subst}
use Rattle.std.specs.List.{AllZip}
use Rattle.cal_ast.specs.Plan.{section_plan}
use Rattle.cal_ast.specs.Tree.{control_tree}
use Rattle.cal_state.specs.inside.Making.{ShowsPlace, ShowsRegisters, ShowsThread, Walk}
use Rattle.cal_state.specs.inside.Threads.{Place, Thread, thread_of}
use Rattle.cal_state.specs.declared.threads.State as state
use Rattle.cal_state.proofs.MadeLemmas.{no_registers, thread_kept}
use Rattle.cal_state.proofs.places.places_of.Goals as goal

pub returns-clause-made : goal.returns-clause-made
returns-clause-made c = λ source item are.
    let n0 = c.args.names.now in
    let n1 = c.add.new.names in
    let n2 = c.push_plan.new.names in
    let plan = section_plan item (control_tree source c.args.control.now) in
    let tree = thread_of 0 plan in
    let last : ℕ = c.in_ok-last.last in
    let made : Thread = record { part = 0; last = last } in
    let same : made ≡ tree = ap (λ (l : ℕ). record { part = 0; last = l }) (c.in_ok-last.ensures source item) in
    let T : Thread → Type 0 = λ th. ShowsThread n1 th c.in_ok-thread.thread in
    let R : Thread → Type 0 = λ th. ShowsRegisters n1 (th ∷ []) c.add.new.self in
    let P : List (Option state.State) → Type 0 = AllZip (ShowsPlace n1) [] in
    let thread = subst T same c.in_ok-thread.ensures.thread in
    let none = no_registers n0 (record { texts = c.args.texts; cells = c.new.result; on = c.new-2.result; enables = c.new-3.result }) are c.new.ensures.items c.new-2.ensures.items c.new-3.ensures.items in
    let walk : Walk = record { threads = tree ∷ []; places = [] } in
    record {
      over = record { thread = thread_kept n1 n2 c.push_plan.ensures.kept tree c.in_ok-thread.thread thread; number = refl };
      places =
          c.in_ok-push_plan.ensures.made source item walk thread
          (record { registers = subst R same (c.in_ok-thread.ensures.made [] none); pieces = subst P (sym c.new-4.ensures.items) tt });
    }
