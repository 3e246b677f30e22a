-- The program's own values, as what they say.
use Rattle.std.specs.Prelude.{List, [], ◌∷◌}
use Rattle.hw_names.specs.Name.{Text}
use Rattle.filc_core.specs.declared.arguments.Arguments.{Arguments as ArgumentsValue}
use Rattle.filc_core.specs.declared.name.CommandName.{CommandName}
use Rattle.filc_core.specs.declared.request.Request.{Request as RequestValue}
use Rattle.filc_core.specs.Arguments.{Arguments}
use Rattle.filc_core.specs.Request.{Request, Asks}

abbrev pub arguments_told : ArgumentsValue → Arguments
arguments_told a = record { language = a.language; design = a.design.now; stimulus = a.stimulus.now; count = a.count }

abbrev pub request_told : RequestValue → Request
request_told r = record { command = r.command; arguments = arguments_told r.arguments }

-- the words ask for none of these commands
abbrev pub AskNoneOf : List CommandName → List Text → Type 0
AskNoneOf [] words = Unit {0}
AskNoneOf (command ∷ commands) words = ((a : Arguments) → Asks words (record { command = command; arguments = a }) → ⊥) × AskNoneOf commands words
