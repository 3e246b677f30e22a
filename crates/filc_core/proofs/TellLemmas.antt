-- What a file gives, it gives wherever its content is told the same.
use Rattle.std.proofs.Common.{◌≡◌, inl, inr, sym, ◌∙◌}
use Rattle.hw_names.specs.Name.{Text}
use Rattle.net_core.specs.Netlist.{Netlist}
use Rattle.cal_ast.specs.Tree as calyx
use Rattle.fil_ast.specs.Tree.{Component, Design}
use Rattle.stim_read.specs.CycleRun.{Run}
use Rattle.stim_read.specs.TxRun.{TxRun}
use Rattle.stim_read.specs.declared.stim_end.StimEnd.{StimEnd}
use Rattle.filc_load.specs.Source.{Tells, FileGivesNet, FileGivesFil, FileGivesCal, IsAccepted, IsSourceRefused, IsRefusedForSource}
use Rattle.filc_load.specs.StimulusFile.{FileGivesRun, FileGivesTransactions, IsRefusedForStimulus}
use Rattle.filc_stop.specs.Outcome.{Contents, Outcome}
use Rattle.filc_stop.specs.declared.ended.Ended.{Ended}
use Rattle.filc_stop.specs.declared.language.Language.{Language}
use Rattle.filc_stop.specs.declared.language.Language.TheVariants.{Netlists, Filament, Calyx}

module _ (contents other : Contents) where
  module _ (file : Text) (same : contents file ≡ other file) where
    pub tells_too : (language : Language) (bytes : Text) → Tells contents language file bytes → Tells other language file bytes
    tells_too language bytes t = record { told = sym same ∙ t.told; within = t.within }

    pub net_too : (n : Netlist) → FileGivesNet contents file n → FileGivesNet other file n
    net_too n g = record { bytes = g.bytes; tells = tells_too Netlists g.bytes g.tells; gives = g.gives }

    pub fil_too : (d : Design) → FileGivesFil contents file d → FileGivesFil other file d
    fil_too d g = record { bytes = g.bytes; tells = tells_too Filament g.bytes g.tells; gives = g.gives }

    pub cal_too : (d : calyx.Design) → FileGivesCal contents file d → FileGivesCal other file d
    cal_too d g = record { bytes = g.bytes; tells = tells_too Calyx g.bytes g.tells; gives = g.gives }

    pub accepted_too : (language : Language) → IsAccepted contents language file → IsAccepted other language file
    accepted_too Netlists (n, g) = (n, net_too n g)
    accepted_too Filament (d, g) = (d, fil_too d g)
    accepted_too Calyx (d, g) = (d, cal_too d g)

    pub refused_too : (language : Language) (ended : Ended) (line : Text) → IsSourceRefused contents language file ended line → IsSourceRefused other language file ended line
    refused_too language ended line (inl (long, e, l)) = inl (record { bytes = long.bytes; told = sym same ∙ long.told; over = long.over }, e, l)
    refused_too language ended line (inr p) = inr (record { bytes = p.bytes; tells = tells_too language p.bytes p.tells; refused = p.refused })

    pub source_too : (language : Language) (o : Outcome) → IsRefusedForSource contents language file o → IsRefusedForSource other language file o
    source_too language o p = record { ended = p.ended; line = p.line; source = refused_too language p.ended p.line p.source; outcome = p.outcome }

    pub run_too : (n : Netlist) (run : Run) → FileGivesRun contents file n run → FileGivesRun other file n run
    run_too n run g = record { bytes = g.bytes; told = sym same ∙ g.told; gives = g.gives }

    pub transactions_too : (c : Component) (run : TxRun) → FileGivesTransactions contents file c run → FileGivesTransactions other file c run
    transactions_too c run g = record { bytes = g.bytes; told = sym same ∙ g.told; gives = g.gives }

    pub stimulus_too : (causes : Text → StimEnd → Type 0) (o : Outcome) → IsRefusedForStimulus contents file causes o → IsRefusedForStimulus other file causes o
    stimulus_too causes o p = record {
      ended = p.ended;
      line = p.line;
      refused = record { bytes = p.refused.bytes; told = sym same ∙ p.refused.told; refused = p.refused.refused };
      outcome = p.outcome;
    }
