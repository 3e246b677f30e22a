use Rattle.cal_state.proofs.threads.Texts.of.Goals as goal

pub returns-clause-texts : goal.returns-clause-texts
returns-clause-texts c = record {
  wire = c.add_name-6.ensures.kept _ _ (c.add_name-5.ensures.kept _ _ (c.add_name-4.ensures.kept _ _ (c.add_name-3.ensures.kept _ _ (c.add_name-2.ensures.kept _ _ c.in_ok-wire.ensures.text))));
  register = c.add_name-6.ensures.kept _ _ (c.add_name-5.ensures.kept _ _ (c.add_name-4.ensures.kept _ _ (c.add_name-3.ensures.kept _ _ c.in_ok-register.ensures.text)));
  input = c.add_name-6.ensures.kept _ _ (c.add_name-5.ensures.kept _ _ (c.add_name-4.ensures.kept _ _ c.in_ok-input.ensures.text));
  enable = c.add_name-6.ensures.kept _ _ (c.add_name-5.ensures.kept _ _ c.in_ok-enable.ensures.text);
  output = c.add_name-6.ensures.kept _ _ c.in_ok-output.ensures.text;
  over = c.in_ok-over.ensures.text;
}

pub returns-clause-kept : goal.returns-clause-kept
returns-clause-kept c =
    λ i text found.
    c.add_name-6.ensures.kept i text
    (c.add_name-5.ensures.kept i text (c.add_name-4.ensures.kept i text (c.add_name-3.ensures.kept i text (c.add_name-2.ensures.kept i text (c.add_name.ensures.kept i text found)))))

pub returns-in_err-output-clause-kept : goal.returns-in_err-output-clause-kept
returns-in_err-output-clause-kept c =
    λ i text found. c.add_name-5.ensures.kept i text (c.add_name-4.ensures.kept i text (c.add_name-3.ensures.kept i text (c.add_name-2.ensures.kept i text (c.add_name.ensures.kept i text found))))

pub returns-in_err-over-clause-kept : goal.returns-in_err-over-clause-kept
returns-in_err-over-clause-kept c =
    λ i text found.
    c.add_name-6.ensures.kept i text
    (c.add_name-5.ensures.kept i text (c.add_name-4.ensures.kept i text (c.add_name-3.ensures.kept i text (c.add_name-2.ensures.kept i text (c.add_name.ensures.kept i text found)))))
