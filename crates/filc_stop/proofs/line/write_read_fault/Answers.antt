use Rattle.filc_stop.proofs.line.write_read_fault.Goals as goal

pub returns-clause-appended : goal.returns-clause-appended
returns-clause-appended g c =
    rw (c.as_bytes.ensures.value, c.as_bytes-2.ensures.value, c.as_bytes-3.ensures.value) at c.write_texts.ensures.appended
