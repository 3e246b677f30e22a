use Rattle.std.proofs.Common.{refl, sym, subst, ◌∙◌}
use Rattle.filc_load.specs.CalFile.{ByWord, LeavesOutAt}
use Rattle.filc_load.proofs.cal_file.left_out.Goals as goal

pub returns-in-Ok : goal.returns-in-Ok
returns-in-Ok c =
    let end = c.requires in
    let word_is = c.in-Ok.ensures ∙ c.as_bytes.ensures.value in
    ByWord (record {
      at = c.args.at;
      word = c.in-Ok.word;
      shallow = end.0;
      refusal = end.1.0;
      left_out = end.1.1;
      stands = subst (LeavesOutAt c.args.text.now c.args.at) (sym word_is) c.left_out_word.ensures;
      is = refl;
      tells = refl;
    })
