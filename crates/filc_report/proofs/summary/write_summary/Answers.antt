use Rattle.std.proofs.Common.{rules, [], ◌++◌, codes}
use Rattle.hw_io.proofs.WritingLemmas.{passed_both}
use Rattle.hw_io.specs.Writing.{Passes}
use Rattle.filc_report.specs.Sums.{count_line, summary_text}
use Rattle.filc_report.proofs.MemoryLemmas.{passed_then_part, passed_then_written}
use Rattle.filc_report.proofs.SumLemmas.{first_part, fourth_part, second_part, third_part}
use Rattle.filc_stop.proofs.SinkLemmas.{keeps_all, none_prefix}
use Rattle.filc_report.proofs.summary.write_summary.Goals as goal

pub returns-in_err-push_count-clause-part : goal.returns-in_err-push_count-clause-part
returns-in_err-push_count-clause-part g c =
    let told = g.O.Sink.written in
    let a = count_line (codes "transactions") c.args.transactions in
    let b = count_line (codes "cycles") c.args.rows in
    let d = count_line (codes "sum") c.args.sums.outputs in
    let e = count_line (codes "ports") c.args.sums.ports in
    let part = first_part (told c.args.out.now) (told c.push_count.new.out) a b d e (rw (c.in_ok-held.ensures, c.as_bytes.ensures.value) at c.in_err-push_count.ensures.prefix) in
    search (rules, part)

pub returns-in_err-push_count-2-clause-part : goal.returns-in_err-push_count-2-clause-part
returns-in_err-push_count-2-clause-part g c =
    let told = g.O.Sink.written in
    let a = count_line (codes "transactions") c.args.transactions in
    let b = count_line (codes "cycles") c.args.rows in
    let d = count_line (codes "sum") c.args.sums.outputs in
    let e = count_line (codes "ports") c.args.sums.ports in
    let first : Passes (told c.args.out.now) [] (told c.push_count.new.out) c.push_count.new.held a = rw (c.in_ok-held.ensures, c.as_bytes.ensures.value) at c.in_ok-push_count.ensures.passed in
    let part = second_part (told c.args.out.now) (told c.push_count.new.out) (told c.push_count-2.new.out) c.push_count.new.held a b d e first (rw c.as_bytes-2.ensures.value at c.in_err-push_count-2.ensures.prefix) in
    search (rules, part)

pub returns-in_err-push_count-3-clause-part : goal.returns-in_err-push_count-3-clause-part
returns-in_err-push_count-3-clause-part g c =
    let told = g.O.Sink.written in
    let a = count_line (codes "transactions") c.args.transactions in
    let b = count_line (codes "cycles") c.args.rows in
    let d = count_line (codes "sum") c.args.sums.outputs in
    let e = count_line (codes "ports") c.args.sums.ports in
    let first : Passes (told c.args.out.now) [] (told c.push_count.new.out) c.push_count.new.held a = rw (c.in_ok-held.ensures, c.as_bytes.ensures.value) at c.in_ok-push_count.ensures.passed in
    let second : Passes (told c.args.out.now) [] (told c.push_count-2.new.out) c.push_count-2.new.held (a ++ b) = passed_both first (rw c.as_bytes-2.ensures.value at c.in_ok-push_count-2.ensures.passed) in
    let part = third_part (told c.args.out.now) (told c.push_count-2.new.out) (told c.push_count-3.new.out) c.push_count-2.new.held a b d e second (rw c.as_bytes-3.ensures.value at c.in_err-push_count-3.ensures.prefix) in
    search (rules, part)

pub returns-in_err-push_count-4-clause-part : goal.returns-in_err-push_count-4-clause-part
returns-in_err-push_count-4-clause-part g c =
    let told = g.O.Sink.written in
    let a = count_line (codes "transactions") c.args.transactions in
    let b = count_line (codes "cycles") c.args.rows in
    let d = count_line (codes "sum") c.args.sums.outputs in
    let e = count_line (codes "ports") c.args.sums.ports in
    let first : Passes (told c.args.out.now) [] (told c.push_count.new.out) c.push_count.new.held a = rw (c.in_ok-held.ensures, c.as_bytes.ensures.value) at c.in_ok-push_count.ensures.passed in
    let second : Passes (told c.args.out.now) [] (told c.push_count-2.new.out) c.push_count-2.new.held (a ++ b) = passed_both first (rw c.as_bytes-2.ensures.value at c.in_ok-push_count-2.ensures.passed) in
    let third : Passes (told c.args.out.now) [] (told c.push_count-3.new.out) c.push_count-3.new.held (a ++ b ++ d) = passed_both second (rw c.as_bytes-3.ensures.value at c.in_ok-push_count-3.ensures.passed) in
    let part = fourth_part (told c.args.out.now) (told c.push_count-3.new.out) (told c.push_count-4.new.out) c.push_count-3.new.held a b d e third (rw c.as_bytes-4.ensures.value at c.in_err-push_count-4.ensures.prefix) in
    search (rules, part)

pub returns-in_err-flush-clause-part : goal.returns-in_err-flush-clause-part
returns-in_err-flush-clause-part g c =
    let told = g.O.Sink.written in
    let a = count_line (codes "transactions") c.args.transactions in
    let b = count_line (codes "cycles") c.args.rows in
    let d = count_line (codes "sum") c.args.sums.outputs in
    let e = count_line (codes "ports") c.args.sums.ports in
    let first : Passes (told c.args.out.now) [] (told c.push_count.new.out) c.push_count.new.held a = rw (c.in_ok-held.ensures, c.as_bytes.ensures.value) at c.in_ok-push_count.ensures.passed in
    let second : Passes (told c.args.out.now) [] (told c.push_count-2.new.out) c.push_count-2.new.held (a ++ b) = passed_both first (rw c.as_bytes-2.ensures.value at c.in_ok-push_count-2.ensures.passed) in
    let third : Passes (told c.args.out.now) [] (told c.push_count-3.new.out) c.push_count-3.new.held (a ++ b ++ d) = passed_both second (rw c.as_bytes-3.ensures.value at c.in_ok-push_count-3.ensures.passed) in
    let fourth : Passes (told c.args.out.now) [] (told c.push_count-4.new.out) c.push_count-4.new.held (a ++ b ++ d ++ e) = passed_both third (rw c.as_bytes-4.ensures.value at c.in_ok-push_count-4.ensures.passed) in
    let part = passed_then_part (told c.args.out.now) (told c.push_count-4.new.out) (told c.flush.new.sink) [] c.push_count-4.new.held (a ++ b ++ d ++ e) fourth c.in_err-flush.ensures.prefix in
    search (rules, part)

pub returns-clause-written : goal.returns-clause-written
returns-clause-written g c =
    let told = g.O.Sink.written in
    let a = count_line (codes "transactions") c.args.transactions in
    let b = count_line (codes "cycles") c.args.rows in
    let d = count_line (codes "sum") c.args.sums.outputs in
    let e = count_line (codes "ports") c.args.sums.ports in
    let first : Passes (told c.args.out.now) [] (told c.push_count.new.out) c.push_count.new.held a = rw (c.in_ok-held.ensures, c.as_bytes.ensures.value) at c.in_ok-push_count.ensures.passed in
    let second : Passes (told c.args.out.now) [] (told c.push_count-2.new.out) c.push_count-2.new.held (a ++ b) = passed_both first (rw c.as_bytes-2.ensures.value at c.in_ok-push_count-2.ensures.passed) in
    let third : Passes (told c.args.out.now) [] (told c.push_count-3.new.out) c.push_count-3.new.held (a ++ b ++ d) = passed_both second (rw c.as_bytes-3.ensures.value at c.in_ok-push_count-3.ensures.passed) in
    let fourth : Passes (told c.args.out.now) [] (told c.push_count-4.new.out) c.push_count-4.new.held (a ++ b ++ d ++ e) = passed_both third (rw c.as_bytes-4.ensures.value at c.in_ok-push_count-4.ensures.passed) in
    passed_then_written (told c.args.out.now) (told c.push_count-4.new.out) (told c.flush.new.sink) [] c.push_count-4.new.held (a ++ b ++ d ++ e) fourth c.in_ok-flush.ensures.appended
