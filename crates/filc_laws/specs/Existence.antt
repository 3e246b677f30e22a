-- The laws of existence: where the content of what the words ask for is told, there is a verdict of it; and a report that is cut short is a part of one. So
-- what is said of each verdict isn't said of none. This project's.
--
-- They hold by classical logic (`Classically`): which tokens a text has, what it spells, which rule it breaks first and which run a netlist has is there,
-- whether or not a program has the memory to find it.
use Rattle.std.specs.Prelude.{List, []}
use Rattle.hw_names.specs.Name.{Text}
use Rattle.filc_stop.specs.Outcome.{Contents, Outcome}
use Rattle.filc_core.specs.Files.{AreTold}
use Rattle.filc_core.specs.Request.{Request, command_of, files_of, Asks}
use Rattle.filc_core.specs.Verdict.{Verdict}
use Rattle.filc_core.specs.declared.name.CommandName.{CommandName}
use Rattle.filc_core.specs.declared.name.CommandName.TheVariants as name
use Rattle.filc_laws.specs.Classically.{Classically}

-- the laws speak of what comes of this command where what it asks for is granted: of each but `soak` and `trace` of a Filament design, which are done where a
-- run has no Conflict
abbrev pub SpeaksOf : CommandName → Type 0
SpeaksOf name.Soak = ⊥
SpeaksOf name.TraceFil = ⊥
SpeaksOf command = Unit {0}

-- this comes of the request, where the design that it makes has this text
abbrev pub Comes : Request → Contents → Text → Outcome → Type 0
Comes r contents made o = (command_of r).comes contents made o

-- the text is one of a design that the request may make; a request that makes none makes the empty text
abbrev pub MayMake : Request → Contents → Text → Type 0
MayMake r contents made = (command_of r).makes contents made

-- ---- reports

-- whichever text a request may make, something comes of it with that text: so a part of its report is a part of one
abbrev pub ReportsExist : Type 0
ReportsExist =
    (r : Request) (contents : Contents) → ((command_of r).granted contents → SpeaksOf r.command) → AreTold contents (files_of r) →
    (made : Text) → MayMake r contents made → Classically ((o : Outcome) × Comes r contents made o)

-- ---- verdicts

-- the content of what the words ask for is told, as far as it is read
abbrev pub AreAllTold : List Text → Contents → Type 0
AreAllTold words contents = (r : Request) → Asks words r → AreTold contents (files_of r)

-- where what the words ask for is granted, the laws speak of it
abbrev pub AreSpokenOf : List Text → Contents → Type 0
AreSpokenOf words contents = (r : Request) → Asks words r → (command_of r).granted contents → SpeaksOf r.command

-- and there is a text that may be made. That each design has a netlist and a lowered design isn't among these laws: it is lowering that makes one, where there
-- is memory for it
abbrev pub CanBeMade : List Text → Contents → Type 0
CanBeMade words contents =
    (r : Request) → Asks words r → (command_of r).granted contents → Classically ((made : Text) × MayMake r contents made)

-- told files have a verdict
abbrev pub VerdictsExist : Type 0
VerdictsExist =
    (words : List Text) (contents : Contents) → AreAllTold words contents → AreSpokenOf words contents → CanBeMade words contents →
    Classically ((made : Text) × ((o : Outcome) × Verdict words contents made o))

-- what the words ask for makes no design
abbrev pub MakeNothing : List Text → Type 0
MakeNothing words = (r : Request) → Asks words r → (contents : Contents) → MayMake r contents []

-- so told files have a verdict, where no design is made
abbrev pub PlainVerdictsExist : Type 0
PlainVerdictsExist =
    (words : List Text) (contents : Contents) → AreAllTold words contents → AreSpokenOf words contents → MakeNothing words →
    Classically ((o : Outcome) × Verdict words contents [] o)
