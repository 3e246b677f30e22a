-- The file of a design gives one design, or is refused with one answer and one line, but for which loop that tells. This project's.
use Rattle.std.specs.Prelude.{◌≡◌}
use Rattle.hw_names.specs.Name.{Text}
use Rattle.cal_ast.specs.Tree as calyx
use Rattle.fil_ast.specs.Tree.{Design}
use Rattle.net_core.specs.Netlist.{Netlist}
use Rattle.filc_stop.specs.Outcome.{Contents}
use Rattle.filc_stop.specs.declared.ended.Ended.{Ended}
use Rattle.filc_stop.specs.declared.language.Language.{Language}
use Rattle.filc_load.specs.Source.{FileGivesNet, FileGivesFil, FileGivesCal, IsAccepted, IsSourceRefused}
use Rattle.filc_laws.specs.OneLine.{IsSameLine}

-- the netlist that a file gives
abbrev pub NetIsGivenOnce : Type 0
NetIsGivenOnce = (contents : Contents) (file : Text) (n m : Netlist) → FileGivesNet contents file n → FileGivesNet contents file m → n ≡ m

-- the design that a file gives
abbrev pub FilIsGivenOnce : Type 0
FilIsGivenOnce = (contents : Contents) (file : Text) (d e : Design) → FileGivesFil contents file d → FileGivesFil contents file e → d ≡ e

abbrev pub CalIsGivenOnce : Type 0
CalIsGivenOnce = (contents : Contents) (file : Text) (d e : calyx.Design) → FileGivesCal contents file d → FileGivesCal contents file e → d ≡ e

-- its refusal
abbrev pub SourceIsRefusedOnce : Type 0
SourceIsRefusedOnce =
    (contents : Contents) (language : Language) (file : Text) (ended ended' : Ended) (line line' : Text) →
    IsSourceRefused contents language file ended line → IsSourceRefused contents language file ended' line' → (ended ≡ ended') × IsSameLine line line'

-- a file that is refused gives no design
abbrev pub RefusedSourceIsNotAccepted : Type 0
RefusedSourceIsNotAccepted =
    (contents : Contents) (language : Language) (file : Text) (ended : Ended) (line : Text) →
    IsSourceRefused contents language file ended line → IsAccepted contents language file → ⊥
