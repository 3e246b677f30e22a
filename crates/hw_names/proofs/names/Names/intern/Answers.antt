use Rattle.std.proofs.Common.{◌≡◌, ◌<◌, ◌^◌, Contains, IsSome, None, [], ◌∷◌, ◌++◌, length, map, ap, ◌∙◌, arith}
use Rattle.std.proofs.lemmas.List.{length-map, length-append}
use Rattle.hw_names.specs.Name.{AreDistinct}
use Rattle.hw_names.specs.declared.names.NameId.{NameId}
use Rattle.hw_names.proofs.NameLemmas.{KeepsTexts-append, AreDistinct-push, slice_get-last}
use Rattle.hw_names.proofs.OwnedTexts.{insert_key-absent}
use Rattle.hw_names.proofs.names.Names.intern.Goals as goal

absent : (c : goal.In_ok-index) → ¬ Contains c.args.self.now c.args.text.now
absent c there = let some : IsSome {T = NameId} None = c.in_default.ensures.present.1 there in cc

-- the text was not there, so it goes last
added : (c : goal.In_ok-index) → (map (λ text. text.bytes.items) c.insert_full.new.self.keys ≡ c.args.self.now ++ c.args.text.now ∷ []) × (c.in_ok-index.index ≡ length c.args.self.now)
added c =
    let last = insert_key-absent (λ owned. owned.bytes.items) c.self.inside.texts.keys (record { bytes = c.in_ok-bytes.bytes }) c.args.self.now c.args.text.now c.self.view_is c.in_ok-bytes.ensures.items (absent c) in
    (ap (map (λ owned. owned.bytes.items)) c.in_ok-index.ensures.keys ∙ last.0, c.in_ok-index.ensures.index ∙ last.1)

fits : (c : goal.In_ok-index) → length c.insert_full.new.self.keys < 2 ^ 32
fits c =
    let held = length-map c.insert_full.new.self.keys (λ owned. owned.bytes.items) in
    let longer = length-append c.args.self.now (c.args.text.now ∷ []) in
    omega (arith, held, ap length (added c).0, longer, c.requires)

distinct : (c : goal.In_ok-index) → AreDistinct (c.args.self.now ++ c.args.text.now ∷ [])
distinct c = AreDistinct-push c.args.self.now c.args.text.now c.in_default.ensures.distinct (absent c)

pub invariant_of-self-2 : goal.invariant_of-self-2
invariant_of-self-2 c = (fits c, rw (added c).0 (distinct c))

pub returns-clause-text : goal.returns-clause-text
returns-clause-text c =
    rw ((added c).0, (added c).1) (slice_get-last c.args.self.now c.args.text.now)

pub returns-clause-added : goal.returns-clause-added
returns-clause-added c = λ _. added c

pub returns-clause-kept : goal.returns-clause-kept
returns-clause-kept c = rw (added c).0 (KeepsTexts-append c.args.self.now (c.args.text.now ∷ []))

pub returns-clause-distinct : goal.returns-clause-distinct
returns-clause-distinct c = rw (added c).0 (distinct c)
