-- What steps of one kind are among all steps. This project's.
use Rattle.net_steps.specs.declared.kinds.AddStep.{AddStep}
use Rattle.net_steps.specs.declared.kinds.BothStep.{BothStep}
use Rattle.net_steps.specs.declared.kinds.ButNotStep.{ButNotStep}
use Rattle.net_steps.specs.declared.kinds.ChooseStep.{ChooseStep}
use Rattle.net_steps.specs.declared.kinds.EqualStep.{EqualStep}
use Rattle.net_steps.specs.declared.kinds.PickStep.{PickStep}
use Rattle.net_steps.specs.declared.operation.Operation.{Operation}
use Rattle.net_steps.specs.declared.operation.Operation.TheVariants.{Add, Both, ButNot, Choose, Equal, Pick}

abbrev pub choose_of : ChooseStep → Operation
choose_of step = Choose step.on step.value step.other

abbrev pub pick_of : PickStep → Operation
pick_of step = Pick step.first step.value step.second step.other

abbrev pub both_of : BothStep → Operation
both_of step = Both step.a step.b

abbrev pub but_not_of : ButNotStep → Operation
but_not_of step = ButNot step.a step.b

abbrev pub equal_of : EqualStep → Operation
equal_of step = Equal step.a step.b

abbrev pub add_of : AddStep → Operation
add_of step = Add step.a step.b step.mask

-- a step of any kind
abbrev pub mixed_of : Operation → Operation
mixed_of step = step
