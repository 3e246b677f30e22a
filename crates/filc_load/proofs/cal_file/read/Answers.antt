use Rattle.filc_load.proofs.cal_file.read.Goals as goal

pub stop_of-requires : goal.stop_of-requires
stop_of-requires c = c.in-Err.ensures.ends

pub returns-in-Ok-clause-read : goal.returns-in-Ok-clause-read
returns-in-Ok-clause-read c =
    record { text_of = record { shallow = c.in-Ok.ensures.read.1; spells = c.in-Ok.ensures.read.0 }; numbers = c.in-Ok.ensures.numbers }
