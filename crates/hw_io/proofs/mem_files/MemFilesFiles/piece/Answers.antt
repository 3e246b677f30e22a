use Rattle.std.proofs.Common.{refl, sym, ◌∙◌, inl, inr}
use Rattle.hw_io.specs.declared.mem_files.MemFile.{MemFile}
use Rattle.hw_io.proofs.EntryLemmas.{known_at_place, unknown_without_place}
use Rattle.hw_io.proofs.MemFilesLemmas.{looked_up, fault_keeps, fault_rose, fault_counted, content_at_place, copied_is_piece}
use Rattle.hw_io.proofs.mem_files.MemFilesFiles.piece.Goals as goal

pub returns-in_default-clause-failed : goal.returns-in_default-clause-failed
returns-in_default-clause-failed c =
    let nowhere = looked_up c.deref.ensures.value c.as_bytes.ensures.value c.place_of.ensures c.in_default.is in
    inl (unknown_without_place (λ file. file.name.items) c.args.self.now.held.items c.args.name.now nowhere)

pub returns-in_default-clause-failing : goal.returns-in_default-clause-failing
returns-in_default-clause-failing c =
    let nowhere = looked_up c.deref.ensures.value c.as_bytes.ensures.value c.place_of.ensures c.in_default.is in
    (λ _. inl (unknown_without_place (λ file. file.name.items) c.args.self.now.held.items c.args.name.now nowhere), λ _. refl)

pub returns-in_default-clause-counted : goal.returns-in_default-clause-counted
returns-in_default-clause-counted c =
    let nowhere = looked_up c.deref.ensures.value c.as_bytes.ensures.value c.place_of.ensures c.in_default.is in
    λ known. absurd (unknown_without_place (λ (file : MemFile). file.name.items) c.args.self.now.held.items c.args.name.now nowhere known)

pub returns-then-is_to_fail-clause-kept : goal.returns-then-is_to_fail-clause-kept
returns-then-is_to_fail-clause-kept c =
    let at = looked_up c.deref.ensures.value c.as_bytes.ensures.value c.place_of.ensures c.in-Some.is in
    fault_keeps c.args.self.now c.args.name.now c.in-Some.place c.index_mut-file.result.now _ _ at c.index_mut-file.ensures.value c.raised-file.ensures.never_falls

pub returns-then-is_to_fail-clause-failed : goal.returns-then-is_to_fail-clause-failed
returns-then-is_to_fail-clause-failed c =
    let at = looked_up c.deref.ensures.value c.as_bytes.ensures.value c.place_of.ensures c.in-Some.is in
    inr (fault_rose c.args.self.now c.args.name.now c.in-Some.place c.index_mut-file.result.now c.raised-file.result c.raised-self.result at c.index_mut-file.ensures.value c.raised-file.ensures.rose)

pub returns-then-is_to_fail-clause-counted : goal.returns-then-is_to_fail-clause-counted
returns-then-is_to_fail-clause-counted c =
    let at = looked_up c.deref.ensures.value c.as_bytes.ensures.value c.place_of.ensures c.in-Some.is in
    λ _. fault_counted c.args.self.now c.args.name.now c.in-Some.place c.index_mut-file.result.now c.raised-file.result c.raised-self.result at c.index_mut-file.ensures.value c.raised-file.ensures.value

pub returns-clause-known : goal.returns-clause-known
returns-clause-known c =
    let at = looked_up c.deref.ensures.value c.as_bytes.ensures.value c.place_of.ensures c.in-Some.is in
    known_at_place (λ file. file.name.items) c.args.self.now.held.items c.args.name.now c.in-Some.place c.index_mut-file.result.now at

pub returns-clause-told : goal.returns-clause-told
returns-clause-told c =
    let at = looked_up c.deref.ensures.value c.as_bytes.ensures.value c.place_of.ensures c.in-Some.is in
    let there = content_at_place c.args.self.now c.args.name.now c.in-Some.place c.index_mut-file.result.now at c.index_mut-file.ensures.value in
    rw (there, ← c.deref-3.ensures.value) (copied_is_piece c.deref-3.result.now c.args.buf.now c.copy_piece.new.buf c.args.at c.copy_piece.result c.copy_piece.ensures.count c.copy_piece.ensures.copied)

pub returns-clause-failing : goal.returns-clause-failing
returns-clause-failing c =
    let at = looked_up c.deref.ensures.value c.as_bytes.ensures.value c.place_of.ensures c.in-Some.is in
    let known = known_at_place (λ (file : MemFile). file.name.items) c.args.self.now.held.items c.args.name.now c.in-Some.place c.index_mut-file.result.now at in (
      λ ok. absurd (cc),
      λ cause. elim cause [
        | inl unknown ↦ absurd (unknown known)
        | inr told ↦ sym c.if-is_to_fail.false ∙ c.is_to_fail.ensures.1 (rw c.deref-2.ensures.value told)
      ],
    )

pub returns-clause-given : goal.returns-clause-given
returns-clause-given c =
    let at = looked_up c.deref.ensures.value c.as_bytes.ensures.value c.place_of.ensures c.in-Some.is in
    let there = content_at_place c.args.self.now c.args.name.now c.in-Some.place c.index_mut-file.result.now at c.index_mut-file.ensures.value in
    rw (there, ← c.deref-3.ensures.value) (c.copy_piece.ensures.count, c.copy_piece.ensures.copied)
