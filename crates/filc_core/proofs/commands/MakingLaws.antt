-- What comes of a command that makes a text of its design and prints it.
use Rattle.std.proofs.Common.{◌≡◌, ◌⊎◌, [], Option, Result, Ok, Err, refl, sym, ap, subst, inl, inr}
use Rattle.std.specs.Prelude.{IfErr, OnOk, OnErr}
use Rattle.std.specs.Io.KnownBytes.{Appends}
use Rattle.hw_io.specs.Writing.{AppendsPrefix}
use Rattle.hw_names.specs.Name.{Text}
use Rattle.net_core.specs.Netlist.{Netlist}
use Rattle.ver_print.specs.Verilog.{verilog_text}
use Rattle.cal_ast.specs.Tree as calyx
use Rattle.fil_ast.specs.Tree as filament
use Rattle.filc_load.specs.Source.{FileGivesCal, FileGivesFil, FileGivesNet, IsAccepted, IsRefusedForSource}
use Rattle.filc_stop.specs.Leaving.{IsCutShort, Leaves}
use Rattle.filc_stop.specs.Outcome.{Contents, Outcome, done_with}
use Rattle.filc_stop.specs.Stops.{IsWritingStop}
use Rattle.filc_stop.specs.declared.language.Language.{Language}
use Rattle.filc_stop.specs.declared.language.Language.TheVariants.{Netlists, Filament, Calyx}
use Rattle.filc_stop.specs.declared.stop.Stop.{Stop}
use Rattle.filc_stop.specs.declared.stop.Stop.TheVariants as stop
use Rattle.filc_core.proofs.TellLemmas.{cal_too, fil_too, net_too, source_too}
use Rattle.filc_core.proofs.CommandLaws.{CommandLaws}
use Rattle.filc_core.proofs.PerformLemmas.{ReadsDesign, one_told}
use Rattle.filc_core.proofs.SourceLemmas.{accepted_not_refused}
use Rattle.filc_core.specs.Arguments.{Arguments}
use Rattle.filc_core.specs.commands.Making.{IsMadeIn, IsMadeOfCalyx, IsMadeOfFilament, PrintsMade, making}
use Rattle.filc_core.specs.declared.commands.making.Product.{Product}

-- a file of whose design a text may be made is accepted
pub made_of_accepted : (language : Language) (product : Product) (contents : Contents) (file made : Text) → IsMadeIn language product contents file made → IsAccepted contents language file
made_of_accepted Netlists product contents file made from = (from.design, from.gives)
made_of_accepted Filament product contents file made from = (from.design, from.gives)
made_of_accepted Calyx product contents file made from = (from.design, from.gives)

module _ (product : Product) (c : Arguments) where
  pub making_reads : ReadsDesign (making product) c c.language []
  making_reads = record { files = refl; refused = λ contents o refused. inl refused; stops = λ why of. inl of }

  -- of an accepted design comes the text that was made, alone
  pub making_comes : (contents : Contents) (made : Text) (o : Outcome) → IsAccepted contents c.language c.design → (making product c).comes contents made o → o ≡ done_with made
  making_comes contents made o accepted (inl refused) = absurd (accepted_not_refused contents c.design c.language o accepted refused)
  making_comes contents made o accepted (inr prints) = prints.outcome

  module _ (contents : Contents) (made : Text) (from : IsMadeIn c.language product contents c.design made) (out out' : Option Text) where
    -- a part of the text that was made
    making_part : AppendsPrefix out out' made → IsCutShort ((making product c).makes contents) ((making product c).comes contents) out out'
    making_part part =
        let accepted = made_of_accepted c.language product contents c.design made from in
        inr (record {
          made = made;
          makes_it = from;
          part = λ o comes. subst (λ (report : Text). AppendsPrefix out out' report) (ap (λ (x : Outcome). x.report) (sym (making_comes contents made o accepted comes))) part;
        })

    -- what was written of it is what the command leaves
    pub making_leaves : (result : Result (Unit {0}) Stop) → OnOk result (Appends out out' made) → OnErr result (AppendsPrefix out out' made) → IfErr result IsWritingStop
        → Leaves ((making product c).makes contents) ((making product c).comes contents) result out out'
    making_leaves (Ok done) written part stops = record { made = made; report = made; outcome = inr (record { is_made = from; outcome = refl }); reported = written }
    making_leaves (Err stop.ReadFault) written part stops = absurd stops
    making_leaves (Err stop.StimulusReadFault) written part stops = absurd stops
    making_leaves (Err (stop.Refused why)) written part stops = absurd stops
    making_leaves (Err stop.WriteFault) written part stops = making_part part
    making_leaves (Err stop.Memory) written part stops = making_part part

-- what is made of the design of a file in each language
module _ (language : Language) (product : Product) (contents : Contents) (file made : Text) where
  pub made_of_net : language ≡ Netlists → (net : Netlist) → FileGivesNet contents file net → made ≡ verilog_text net → IsMadeIn language product contents file made
  made_of_net is net gives text = subst (λ (l : Language). IsMadeIn l product contents file made) (sym is) (record { design = net; gives = gives; is_made = text })

  pub made_of_fil : language ≡ Filament → (design : filament.Design) → FileGivesFil contents file design → IsMadeOfFilament product design made → IsMadeIn language product contents file made
  made_of_fil is design gives text = subst (λ (l : Language). IsMadeIn l product contents file made) (sym is) (record { design = design; gives = gives; is_made = text })

  pub made_of_cal : language ≡ Calyx → (design : calyx.Design) → FileGivesCal contents file design → IsMadeOfCalyx product design made → IsMadeIn language product contents file made
  made_of_cal is design gives text = subst (λ (l : Language). IsMadeIn l product contents file made) (sym is) (record { design = design; gives = gives; is_made = text })

-- it is of its file
module _ (contents other : Contents) where
  made_in_too : (language : Language) (product : Product) (c : Arguments) (made : Text) → contents c.design ≡ other c.design → IsMadeIn language product contents c.design made → IsMadeIn language product other c.design made
  made_in_too Netlists product c made same from = record { design = from.design; gives = net_too contents other c.design same from.design from.gives; is_made = from.is_made }
  made_in_too Filament product c made same from = record { design = from.design; gives = fil_too contents other c.design same from.design from.gives; is_made = from.is_made }
  made_in_too Calyx product c made same from = record { design = from.design; gives = cal_too contents other c.design same from.design from.gives; is_made = from.is_made }

  making_too : (product : Product) (c : Arguments) (made : Text) (o : Outcome) → contents c.design ≡ other c.design → IsRefusedForSource contents c.language c.design o ⊎ PrintsMade (IsMadeIn c.language product contents c.design) made o
      → IsRefusedForSource other c.language c.design o ⊎ PrintsMade (IsMadeIn c.language product other c.design) made o
  making_too product c made o same (inl p) = inl (source_too contents other c.design same c.language o p)
  making_too product c made o same (inr a) = inr (record { is_made = made_in_too c.language product c made same a.is_made; outcome = a.outcome })

module _ (product : Product) (c : Arguments) where
  pub making_laws : CommandLaws (making product c)
  making_laws = record {
    granted_ends = λ contents made o granted comes. inl (ap (λ (x : Outcome). x.ended) (making_comes product c contents made o granted comes));
    granted_told = one_told (making product) c c.language (making_reads product c);
    by_files = λ contents other same made o comes. making_too contents other product c made o same.0 comes;
  }
