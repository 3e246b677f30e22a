use Rattle.hw_lex.proofs.byte.is_single_mark.Goals as goal

pub returns-in-Fil : goal.returns-in-Fil
returns-in-Fil c = rw c.in-Fil.is c.contains.ensures.value

pub returns-in-Filp : goal.returns-in-Filp
returns-in-Filp c = rw c.in-Filp.is c.contains-in-Filp.ensures.value

pub returns-in-Cal : goal.returns-in-Cal
returns-in-Cal c = rw c.in-Cal.is c.contains-in-Cal.ensures.value
