use Rattle.std.proofs.Common.{rules, ◌++◌, ◌+◌, ◌≡◌, codes, drop, ap, sym, ◌∙◌, subst, arith}
use Rattle.std.proofs.lemmas.List.{at_drop_more, append-nil}
use Rattle.hw_io.specs.Writing.{AppendsPrefix}
use Rattle.std.specs.Io.KnownBytes.{Appends}
use Rattle.filc_stop.specs.Lines.{spaced}
use Rattle.filc_stop.proofs.SinkLemmas.{gained_more, gained_prefix}
use Rattle.filc_stop.proofs.line.write_ports.Goals as goal

pub returns-in_err-write_texts-clause-prefix : goal.returns-in_err-write_texts-clause-prefix
returns-in_err-write_texts-clause-prefix g c =
    let told = g.S.Sink.written in
    let port = c.bytes.result.now in
    let parts : spaced (drop c.loop-port.port-index c.args.ports.now) ≡ (codes " " ++ port) ++ spaced (drop (c.loop-port.port-index + 1) c.args.ports.now) =
    at_drop_more spaced c.args.ports.now c.loop-port.port-index c.port-item.result c.loop-port-test.true
    ∙ ap (λ p. (codes " " ++ p) ++ spaced (drop (c.loop-port.port-index + 1) c.args.ports.now)) (sym c.port-item.is ∙ sym c.bytes.ensures) in
    let late : AppendsPrefix (told c.loop-port.sink) (told c.write_texts.new.sink) (codes " " ++ port) = subst (λ p. AppendsPrefix (told c.loop-port.sink) (told c.write_texts.new.sink) (codes " " ++ p)) (append-nil port) (rw (c.as_bytes.ensures.value) at c.in_err-write_texts.ensures.prefix) in
    let prefix = gained_prefix (told c.args.sink.now) (told c.loop-port.sink) (told c.write_texts.new.sink) (codes " " ++ port) (spaced (drop c.loop-port.port-index c.args.ports.now)) (spaced (drop (c.loop-port.port-index + 1) c.args.ports.now)) (spaced c.args.ports.now) parts c.loop-port.invariant.gained late in
    search (rules, prefix)

pub loop-port-preserved : goal.loop-port-preserved
loop-port-preserved g c =
    let told = g.S.Sink.written in
    let port = c.bytes.result.now in
    let parts : spaced (drop c.loop-port.port-index c.args.ports.now) ≡ (codes " " ++ port) ++ spaced (drop (c.loop-port.port-index + 1) c.args.ports.now) =
    at_drop_more spaced c.args.ports.now c.loop-port.port-index c.port-item.result c.loop-port-test.true
    ∙ ap (λ p. (codes " " ++ p) ++ spaced (drop (c.loop-port.port-index + 1) c.args.ports.now)) (sym c.port-item.is ∙ sym c.bytes.ensures) in
    let late : Appends (told c.loop-port.sink) (told c.write_texts.new.sink) (codes " " ++ port) = subst (λ p. Appends (told c.loop-port.sink) (told c.write_texts.new.sink) (codes " " ++ p)) (append-nil port) (rw (c.as_bytes.ensures.value) at c.in_ok-write_texts.ensures.appended) in
    record {
      gained = gained_more (told c.args.sink.now) (told c.loop-port.sink) (told c.write_texts.new.sink) (codes " " ++ port) (spaced (drop c.loop-port.port-index c.args.ports.now)) (spaced (drop (c.loop-port.port-index + 1) c.args.ports.now)) (spaced c.args.ports.now) parts c.loop-port.invariant.gained late;
      never_falls = omega (arith, c.in_ok-write_texts.ensures.never_falls);
    }
