use Rattle.std.proofs.Common.{ℕ, ◌+◌, decimal, ap}
use Rattle.filc_report.proofs.LineLemmas.{digits_put}
use Rattle.filc_report.proofs.digits.write_number.Goals as goal

pub returns-clause-written : goal.returns-clause-written
returns-clause-written c =
    let write = c.write_digits.ensures in
    digits_put c.args.room.now c.write_digits.new.buf (decimal c.args.number) _ c.args.at c.write_digits.result _ write.start (ap (λ (n : ℕ). c.args.at + n) c.count_digits.ensures.count) write.written write.before
