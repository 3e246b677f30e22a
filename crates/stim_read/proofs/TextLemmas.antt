-- Texts that are no JSON value, and runs that a stimulus gives.
use Rattle.std.proofs.Common.{◌≡◌, ℕ, Bool, false, List, Option, Some, None, IsTrue, Result, Ok, Err, IfOk, IfErr, ◌↔◌, sym, ◌∙◌}
use Rattle.std.proofs.lemmas.Bool.{false≢true}
use Rattle.std.specs.Str.{IsUtf8}
use Rattle.serde_json.specs.Data.{Data}
use Rattle.serde_json.specs.Errors.{IsMemory}
use Rattle.serde_json.specs.Read.{read}
use Rattle.serde_json.specs.declared.error.Error.{Error}
use Rattle.net_core.specs.declared.stimulus.InputShape.{InputShape}
use Rattle.net_core.specs.declared.stimulus.CycleList.{CycleList}
use Rattle.net_core.specs.declared.stimulus.MemShape.{MemShape}
use Rattle.stim_read.specs.CycleText.{Cycles}
use Rattle.stim_read.specs.CycleRun.{IsJson, Load, Run, Setting, SayCycles, GiveRun, NoMemory, NoValue, IsCause, NoStimulus, ByRule, run_of, run_seen}
use Rattle.stim_read.specs.inside.CycleWalk.{cycles_fault}
use Rattle.stim_read.specs.inside.Walk.{IsTold, Tells}
use Rattle.stim_read.specs.declared.stim_end.StimEnd.{StimEnd}
use Rattle.stim_read.specs.declared.stim_end.StimEnd.TheVariants.{Refused, Limit, Memory}
use Rattle.stim_read.proofs.CycleRuleLemmas.{cycles_kept, cycles_broken}

pub no_json : (bytes : List ℕ) (e : Error) (b : Bool) → b ≡ false → (IsTrue b ↔ IsMemory e) → ((IsMemory e → ⊥) → IsUtf8 bytes → read bytes ≡ None) → (value : Data) → IsJson bytes value → ⊥
no_json bytes e b off iff refuses value json =
    let none : read bytes ≡ None = refuses (λ memory. false≢true (sym off ∙ iff.1 memory)) json.utf8 in
    let both : ◌≡◌ {A = Option Data} None (Some value) = sym none ∙ json.reads in cc

pub same_run : (cycles : ℕ) (a b : List Setting) (x y : List Load) → a ≡ b → x ≡ y → ◌≡◌ {A = Run} (record { cycles = cycles; settings = a; loads = x }) (record { cycles = cycles; settings = b; loads = y })
same_run cycles a b x y p q = λ i. record { cycles = cycles; settings = p i; loads = q i }

pub gives_run : (bytes : List ℕ) (ins : List InputShape) (mems : List MemShape) (c : Cycles) (r : Result CycleList StimEnd) → SayCycles bytes c → Tells r (cycles_fault ins mems c) → IfOk r (λ list. run_seen list ≡ run_of ins mems c)
    → IfOk r (λ list. GiveRun bytes ins mems (run_seen list))
gives_run bytes ins mems c (Ok list) says told run = record { stimulus = c; said = says; kept = cycles_kept ins mems c told; gives = run }
gives_run bytes ins mems c (Err e) says told run = tt

told_cause : (bytes : List ℕ) (ins : List InputShape) (mems : List MemShape) (c : Cycles) (end : StimEnd) → SayCycles bytes c → IsTold end (cycles_fault ins mems c) → IsCause bytes ins mems end
told_cause bytes ins mems c (Refused rule entry first second delay) says told =
    ByRule c (Refused rule entry first second delay) says (cycles_broken ins mems c (Refused rule entry first second delay) told)
told_cause bytes ins mems c (Limit count limit cycles) says told = ByRule c (Limit count limit cycles) says (cycles_broken ins mems c (Limit count limit cycles) told)
told_cause bytes ins mems c Memory says told = NoStimulus Memory (NoValue Memory NoMemory)

pub tells_cause : (bytes : List ℕ) (ins : List InputShape) (mems : List MemShape) (c : Cycles) (r : Result CycleList StimEnd) → SayCycles bytes c → Tells r (cycles_fault ins mems c) → IfErr r (IsCause bytes ins mems)
tells_cause bytes ins mems c (Ok list) says told = tt
tells_cause bytes ins mems c (Err e) says told = told_cause bytes ins mems c e says told
