use Rattle.std.proofs.Common.{rules, arith, ◌≡◌, ◌<◌, ◌+◌, ◌++◌, length, take, subst, IfSome, Contains, sym}
use Rattle.std.proofs.lemmas.Grind.{common_steps}
use Rattle.hw_io.proofs.ReadingLemmas.{IsFront, keeps_all, keeps_both, fault_at_last, told_front_none, told_front_and_piece, told_front_is_whole, told_reaches}
use Rattle.hw_io.proofs.reading.read_whole.Goals as goal

pub loop-bytes-init : goal.loop-bytes-init
loop-bytes-init g c =
    let files = g.F.Files in
    record {
      kept = keeps_all files.names files.content files.faults c.args.name.now c.args.files.now;
      within = search rules;
      told = told_front_none (files.content c.args.files.now c.args.name.now) c.new-bytes.result.items c.new-bytes.ensures.items;
      buffer = search rules;
    }

pub returns-in_err-count-clause-kept : goal.returns-in_err-count-clause-kept
returns-in_err-count-clause-kept g c = keeps_both c.loop-bytes.invariant.kept c.in_err-count.ensures.kept

pub returns-in_err-count-clause-fault : goal.returns-in_err-count-clause-fault
returns-in_err-count-clause-fault g c = λ _. fault_at_last _ c.loop-bytes.invariant.kept c.in_err-count.ensures.failed

pub returns-then-count-eq0-clause-kept : goal.returns-then-count-eq0-clause-kept
returns-then-count-eq0-clause-kept g c = keeps_both c.loop-bytes.invariant.kept c.in_ok-count.ensures.kept

pub returns-then-count-eq0-clause-whole : goal.returns-then-count-eq0-clause-whole
returns-then-count-eq0-clause-whole g c =
    let content = g.F.Files.content in
    let here : c.len-at.result ≡ length c.loop-bytes.bytes.items = omega (arith, c.len-at.ensures, c.loop-bytes.bytes.ok.0) in
    let room : 0 < length c.piece.new.buf = omega (arith, c.piece.auto.buf, c.loop-bytes.invariant.buffer) in
    subst (λ told. IfSome told (λ content. c.loop-bytes.bytes.items ≡ content)) (c.loop-bytes.invariant.kept.contents_kept c.args.name.now)
    (told_front_is_whole (content c.loop-bytes.files c.args.name.now) c.loop-bytes.bytes.items c.piece.new.buf _ c.in_ok-count.count c.if-count-eq0.true here room c.loop-bytes.invariant.told c.in_ok-count.ensures.told)

pub returns-then-count-limit-clause-kept : goal.returns-then-count-limit-clause-kept
returns-then-count-limit-clause-kept g c = keeps_both c.loop-bytes.invariant.kept c.in_ok-count.ensures.kept

pub returns-then-count-limit-clause-too_long : goal.returns-then-count-limit-clause-too_long
returns-then-count-limit-clause-too_long g c =
    let content = g.F.Files.content in
    let some : 0 < c.in_ok-count.count = omega (arith, c.if-count-eq0.false) in
    let past : c.args.limit < c.len-at.result + c.in_ok-count.count = omega (arith, c.if-count-limit.true) in
    let there = subst (λ told. IfSome told (λ content. c.args.limit < length content)) (c.loop-bytes.invariant.kept.contents_kept c.args.name.now)
    (told_reaches (content c.loop-bytes.files c.args.name.now) c.piece.new.buf _ c.in_ok-count.count c.args.limit c.in_ok-count.ensures.fits some past c.in_ok-count.ensures.told) in
    λ _. (subst (λ names. Contains names c.args.name.now) c.loop-bytes.invariant.kept.names_kept c.in_ok-count.ensures.known, there)

pub loop-bytes-preserved : goal.loop-bytes-preserved
loop-bytes-preserved g c =
    let content = g.F.Files.content in
    let here : c.len-at.result ≡ length c.loop-bytes.bytes.items = omega (arith, c.len-at.ensures, c.loop-bytes.bytes.ok.0) in
    let told = told_front_and_piece (content c.loop-bytes.files c.args.name.now) c.loop-bytes.bytes.items c.piece.new.buf _ c.in_ok-count.count here c.in_ok-count.ensures.fits c.loop-bytes.invariant.told c.in_ok-count.ensures.told in
    let items : c.extend_from_slice.new.self.items ≡ c.loop-bytes.bytes.items ++ take c.in_ok-count.count c.piece.new.buf = grind (arith, common_steps, c.in_ok-extend_from_slice.ensures.items) in
    record {
      kept = keeps_both c.loop-bytes.invariant.kept c.in_ok-count.ensures.kept;
      within = search rules;
      told = subst (λ bytes. IfSome (content c.piece.new.self c.args.name.now) (λ whole. IsFront whole bytes)) (sym items)
          (subst (λ known. IfSome known (λ whole. IsFront whole (c.loop-bytes.bytes.items ++ take c.in_ok-count.count c.piece.new.buf))) (sym (c.in_ok-count.ensures.kept.contents_kept c.args.name.now)) told);
      buffer = search rules;
    }

pub returns-in_err-extend_from_slice-clause-kept : goal.returns-in_err-extend_from_slice-clause-kept
returns-in_err-extend_from_slice-clause-kept g c = keeps_both c.loop-bytes.invariant.kept c.in_ok-count.ensures.kept
