use Rattle.std.proofs.Common.{◌≡◌, ℕ, ◌<◌, ◌≤◌, ◌+◌, ◌++◌, ◌∷◌, [], None, length, drop, map, append_assoc, refl, sym, ap, subst, ◌∙◌, arith}
use Rattle.std.proofs.lemmas.List.{drop_all, append-nil, map-append}
use Rattle.stim_read.specs.CycleText.{words_seen}
use Rattle.stim_read.specs.CycleRules.{memory_targets, sizes_of}
use Rattle.stim_read.specs.CycleRun.{load_of, load_seen}
use Rattle.stim_read.specs.inside.CycleWalk.{memory_fault, memories_fault}
use Rattle.stim_read.specs.inside.Walk.{first_fault, IsTold}
use Rattle.stim_read.proofs.EachLemmas.{cut_at}
use Rattle.stim_read.proofs.FaultLemmas.{passes, passes_memory, told_first, told_by, memories_cut}
use Rattle.stim_read.proofs.FitLemmas.{number_is}
use Rattle.stim_read.proofs.cycle_memories.loads.Goals as goal

pub loop-index-init : goal.loop-index-init
loop-index-init c =
    let t = memory_targets c.args.mems.now in
    let same : c.args.first + 0 ≡ c.args.first = omega arith in
    record { fault = ap (λ n. memories_fault t (sizes_of c.args.mems.now) n (map words_seen c.args.memories.now)) same; loads = rw c.new-loads.ensures.items refl }

pub returns-in_err-number-clause-told : goal.returns-in_err-number-clause-told
returns-in_err-number-clause-told c = passes_memory c.from_residual-in_err-number.result _ c.from_residual-in_err-number.ensures.1

pub returns-in_err-load-clause-told : goal.returns-in_err-load-clause-told
returns-in_err-load-clause-told c =
    let e = c.in_err-load.field-0.0 in
    let t = memory_targets c.args.mems.now in
    let sizes = sizes_of c.args.mems.now in
    let xs = c.args.memories.now in
    let i = c.loop-index.index in
    let x = c.index-memories-index.result in
    let n = c.args.first + i in
    let within : i < length xs = omega arith in
    let number = number_is c.checked_add.result c.ok_or.result _ c.in_ok-number.number n _ c.checked_add.ensures c.ok_or.ensures.value c.in_ok-number.was in
    let told : IsTold e (memory_fault t sizes n (words_seen x)) = subst (λ (k : ℕ). IsTold e (memory_fault t sizes k (words_seen x))) number c.in_err-load.ensures.told in
    passes c.from_residual-in_err-load.result e _ c.from_residual-in_err-load.ensures.1
    (told_by e _ _ (sym (memories_cut t sizes n xs i x within c.index-memories-index.is) ∙ c.loop-index.invariant.fault) (told_first e (memory_fault t sizes n (words_seen x)) _ told))

pub returns-in_err-push-clause-told : goal.returns-in_err-push-clause-told
returns-in_err-push-clause-told c = passes_memory c.from_residual-in_err-push.result _ c.from_residual-in_err-push.ensures.1

pub loop-index-preserved : goal.loop-index-preserved
loop-index-preserved c =
    let t = memory_targets c.args.mems.now in
    let sizes = sizes_of c.args.mems.now in
    let xs = c.args.memories.now in
    let i = c.loop-index.index in
    let x = c.index-memories-index.result in
    let n = c.args.first + i in
    let within : i < length xs = omega arith in
    let number = number_is c.checked_add.result c.ok_or.result _ c.in_ok-number.number n _ c.checked_add.ensures c.ok_or.ensures.value c.in_ok-number.was in
    let kept : memory_fault t sizes n (words_seen x) ≡ None = subst (λ (k : ℕ). memory_fault t sizes k (words_seen x) ≡ None) number c.in_ok-load.ensures.told in
    let after : c.args.first + (i + 1) ≡ n + 1 = omega arith in
    let rest = map words_seen (drop (i + 1) xs) in
    let cut = memories_cut t sizes n xs i x within c.index-memories-index.is in
    record {
      fault = ap (λ k. memories_fault t sizes k rest) after ∙ sym (cut ∙ ap (λ f. first_fault f (memories_fault t sizes (n + 1) rest)) kept) ∙ c.loop-index.invariant.fault;
      loads = ap (λ ys. map load_seen ys ++ map (load_of t) rest) c.in_ok-push.ensures.items
          ∙ ap (λ ys. ys ++ map (load_of t) rest) (map-append load_seen c.loop-index.loads.items (c.in_ok-load.field-0 ∷ []))
          ∙ append_assoc (map load_seen c.loop-index.loads.items) (load_seen c.in_ok-load.field-0 ∷ []) (map (load_of t) rest)
          ∙ ap (λ y. map load_seen c.loop-index.loads.items ++ y ∷ map (load_of t) rest) c.in_ok-load.ensures.load
          ∙ ap (λ ys. map load_seen c.loop-index.loads.items ++ map (load_of t) (map words_seen ys)) (sym (cut_at xs i x within c.index-memories-index.is))
          ∙ c.loop-index.invariant.loads;
    }

pub returns-clause-told : goal.returns-clause-told
returns-clause-told c =
    let xs = c.args.memories.now in
    let i = c.loop-index.index in
    let past : length xs ≤ i = omega arith in
    sym c.loop-index.invariant.fault ∙ ap (λ ys. memories_fault (memory_targets c.args.mems.now) (sizes_of c.args.mems.now) (c.args.first + i) (map words_seen ys)) (drop_all i xs past)

pub returns-clause-loads : goal.returns-clause-loads
returns-clause-loads c =
    let t = memory_targets c.args.mems.now in
    let xs = c.args.memories.now in
    let i = c.loop-index.index in
    let past : length xs ≤ i = omega arith in
    sym (ap (λ ys. map load_seen c.loop-index.loads.items ++ map (load_of t) (map words_seen ys)) (drop_all i xs past) ∙ append-nil (map load_seen c.loop-index.loads.items)) ∙ c.loop-index.invariant.loads
