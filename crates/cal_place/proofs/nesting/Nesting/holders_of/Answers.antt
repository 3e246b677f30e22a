use Rattle.std.proofs.Common.{◌<◌, ℕ, List, Bool, All, Vec, Global, Contains, length, sym, subst, subst₂, ◌↔◌, arith}
use Rattle.std.proofs.lemmas.Result.{IfOk-weaker}
use Rattle.hw_graph.specs.Graph.{Reaches}
use Rattle.cal_place.specs.Holders.{AreHolders, AreMarks}
use Rattle.cal_place.proofs.HolderLemmas.{no_marks}
use Rattle.cal_place.proofs.MarkLemmas.{holders_told}
use Rattle.cal_place.proofs.nesting.Nesting.holders_of.Goals as goal

pub returns-then-not-may_be_inside : goal.returns-then-not-may_be_inside
returns-then-not-may_be_inside c design shows =
    let (other, other_shows, below) = c.requires in
    let within : c.args.number < length design = omega (arith, below, other_shows.sized, shows.sized) in
    no_marks design c.args.number c.new.result.items c.new.ensures.items (c.may_be_inside.ensures design shows within c.if-not-may_be_inside.true)

pub from-requires : goal.from-requires
from-requires c =
    let (design, shows, below) = c.requires in
    record {
      in_range = shows.in_range;
      size = c.in_ok-reach.ensures;
      start = omega (arith, below, shows.sized);
    }

pub marks_of-requires : goal.marks_of-requires
marks_of-requires c =
    let (design, shows, below) = c.requires in
    let within : c.args.number < c.len.result = omega (arith, below, shows.sized, c.len.ensures) in
    let B : ℕ → List ℕ → Type 0 = λ n l. All (λ (port : ℕ). port < n) l in
    record { number = within; reached = subst₂ B (sym c.len.ensures) (sym c.deref.ensures.value) c.in_ok-reached.ensures.in_range }

pub returns : goal.returns
returns c design shows =
    let number = c.args.number in
    let R : List ℕ → Type 0 = λ l. (port : ℕ) → Contains l port ↔ Reaches c.args.self.now.holders number port in
    let reach : R c.deref.result.now = subst R (sym c.deref.ensures.value) c.in_ok-reached.ensures.reached in
    IfOk-weaker c.marks_of.result (λ (marks : Vec Bool Global). AreMarks number c.deref.result.now marks.items) (λ (marks : Vec Bool Global). AreHolders design number marks.items)
    (λ marks marked. holders_told design c.args.self.now.holders shows.holders number c.deref.result.now marks.items reach marked) c.marks_of.ensures
