use Rattle.std.proofs.Common.{List}
use Rattle.hw_names.specs.Name.{Text, KeepsTexts}
use Rattle.cal_ast.specs.Numbers.{PortHasNumbers}
use Rattle.fil_fsm.specs.Registers.{AreRegisterTexts, PartsHaveNumbers}
use Rattle.fil_fsm.proofs.GrownLemmas.{IsGrown}
use Rattle.fil_fsm.proofs.shift.shift_register.Given as goal

abbrev pub invariant-loop : goal.invariant-loop
invariant-loop l = record {
  kept : KeepsTexts l.fn.names l.names;
  texts : AreRegisterTexts l.names l.texts;
  numbers : (later : List Text) → KeepsTexts l.names later → PartsHaveNumbers later l.parts × PortHasNumbers later l.bit;
  grown : IsGrown l.fn.names l.names l.fn.go l.parts l.bit l.counter;
}
