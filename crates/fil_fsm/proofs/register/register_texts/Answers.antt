use Rattle.fil_fsm.proofs.register.register_texts.Goals as goal

pub returns-clause-texts : goal.returns-clause-texts
returns-clause-texts c = record {
  made = c.intern-4.ensures.kept _ _ (c.intern-3.ensures.kept _ _ (c.intern-2.ensures.kept _ _ c.in_ok-made.ensures.text));
  input = c.intern-4.ensures.kept _ _ (c.intern-3.ensures.kept _ _ c.in_ok-input.ensures.text);
  enable = c.intern-4.ensures.kept _ _ c.in_ok-enable.ensures.text;
  output = c.in_ok-output.ensures.text;
}

pub returns-clause-kept : goal.returns-clause-kept
returns-clause-kept c =
    λ i text found. c.intern-4.ensures.kept i text (c.intern-3.ensures.kept i text (c.intern-2.ensures.kept i text (c.intern.ensures.kept i text found)))
