use Rattle.std.proofs.Common.{◌≡◌, ◌-◌, ◌<◌, ◌∙◌, ◌++◌, ◌∷◌, [], set, take, length, refl, sym, ap, arith, true, false}
use Rattle.std.proofs.lemmas.List.Elements.{Contains-append_left}
use Rattle.hw_graph.proofs.SearchLemmas.{taken_read}
use Rattle.hw_graph.proofs.WalkLemmas.{last_on, gone_back, looked_at, reached_more, seen_read, seen_set}
use Rattle.hw_graph.specs.Walk.{is_seen}
use Rattle.hw_graph.proofs.walk.Walk.step.Goals.{In-Some, Then-index, In_ok-enter}
use Rattle.hw_graph.proofs.walk.Walk.step.Goals as goal

pub returns-in_default-clause-walk : goal.returns-in_default-clause-walk
returns-in_default-clause-walk c =
    let self = c.args.self.now in
    let none = c.in_default.ensures.none in
    let back = gone_back c.args.reads.now self.seen.items self.left.items self.path.items c.requires.walk c.args.top c.requires.some c.requires.top none.0 in
    let shorter = c.pop-last.ensures.rest ∙ ap (λ n. take (n - 1) self.path.items) self.path.ok.0 in
    rw (none.1, shorter) back

within : (c : In-Some) → c.in-Some.read < length c.args.self.now.seen.items
within c =
    let has = taken_read c.args.reads.now c.args.self.now.left.items c.next_read.new.left.items c.args.top c.in-Some.read c.in-Some.ensures.some in
    omega (arith, c.requires.in_range c.args.top c.in-Some.read has, c.requires.walk.all_seen)

pub index-requires : goal.index-requires
index-requires c =
    let r : In-Some = (goal.at.index-requires c).In-Some in
    omega (arith, within r, c.args.self.now.seen.ok.0)

pub enter-requires : goal.enter-requires
enter-requires c = within (goal.at.enter-requires c).In-Some

is_reached : (c : Then-index) → is_seen c.args.self.now.seen.items c.in-Some.read ≡ true
is_reached c =
    seen_read c.args.self.now.seen.items c.in-Some.read c.index.result.now true (within (goal.at.returns-then-index-clause-walk c).In-Some) c.index.ensures c.if-index.true

pub returns-then-index-clause-walk : goal.returns-then-index-clause-walk
returns-then-index-clause-walk c =
    let self = c.args.self.now in
    let t = c.in-Some.ensures.some in
    let on = last_on c.args.reads.now self.seen.items self.left.items self.path.items c.requires.walk c.args.top c.requires.some c.requires.top in
    rw t.now (looked_at c.args.reads.now self.seen.items self.left.items self.path.items c.requires.walk c.args.top t.place on t.was (ap (is_seen self.seen.items) (sym t.is) ∙ is_reached c))

pub returns-then-index-clause-step : goal.returns-then-index-clause-step
returns-then-index-clause-step c =
    let self = c.args.self.now in
    (c.in-Some.ensures.some, rw (is_reached c) (refl, refl))

pub returns-clause-walk : goal.returns-clause-walk
returns-clause-walk c =
    let self = c.args.self.now in
    let reads = c.args.reads.now in
    let q = c.in-Some.read in
    let t = c.in-Some.ensures.some in
    let in_seen = within (goal.at.returns-clause-walk c).In-Some in
    let unseen = seen_read self.seen.items q c.index.result.now false in_seen c.index.ensures c.if-index.false in
    let has = taken_read reads self.left.items c.next_read.new.left.items c.args.top q t in
    let w = reached_more reads self.seen.items self.left.items self.path.items c.requires.walk q (c.requires.in_range c.args.top q has) unseen (λ _. rw (← c.requires.top) has) in
    let on = Contains-append_left self.path.items (q ∷ []) c.args.top (last_on reads self.seen.items self.left.items self.path.items c.requires.walk c.args.top c.requires.some c.requires.top) in
    let now = seen_set self.seen.items q in_seen in
    rw (c.enter.ensures.seen, c.enter.ensures.left, c.in_ok-enter.ensures.path, t.now)
    (looked_at reads (set self.seen.items q true) self.left.items (self.path.items ++ q ∷ []) w c.args.top t.place on t.was (ap (is_seen (set self.seen.items q true)) (sym t.is) ∙ now))
