use Rattle.std.proofs.Common.{◌<◌, arith}
use Rattle.std.proofs.lemmas.Bool.Decides.{nat_tests}
use Rattle.row_tests.proofs.rows.has_word.Goals as goal

pub returns-then-mem-pair : goal.returns-then-mem-pair
returns-then-mem-pair c = λ told.
    let within : c.args.at < c.word_count.result = grind (arith, nat_tests) in
    record {
      memory = omega arith;
      within = λ cell prim is. omega (arith, within, (c.word_count.ensures cell prim is).0);
    }
