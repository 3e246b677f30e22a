use Rattle.std.proofs.Common.{◌++◌, ◌-◌, length, subst, sym, ◌∙◌, ap}
use Rattle.hw_names.specs.Name.{Text}
use Rattle.net_core.specs.Netlist.{netlist_of}
use Rattle.net_text.specs.Reading.{IsRefusedAt}
use Rattle.net_text.specs.inside.ReadTexts.{front_text}
use Rattle.net_text.proofs.ReadLemmas.{next_is_read, differ}
use Rattle.net_text.proofs.TextLaws.{refused_line, refused_end}
use Rattle.net_text.proofs.read.read_lines.Goals.{in-Some+else-eq+in-Err-Grammar, in_default}
use Rattle.net_text.proofs.read.read_lines.Goals as goal

pub loop-line-preserved : goal.loop-line-preserved
loop-line-preserved c =
    next_is_read c.args.bytes.now c.loop-line.rest.now c.in-Some.line.now c.in-Some.after.now c.loop-line.net c.add_line.new.net c.loop-line.invariant c.in-Some.ensures.parts c.in-Ok.ensures.next c.in-Ok.ensures.settled c.in-Ok.ensures.grows

pub returns-clause-refused : goal.returns-clause-refused
returns-clause-refused c =
    let bytes = c.args.bytes.now in
    let rest = c.loop-line.rest.now in
    let n = netlist_of c.loop-line.net in
    let read = c.loop-line.invariant in
    elim c.match-split_line.branch [
      | in-Some+else-eq+in-Err-Grammar w ↦
          let line = w.in-Some.line.now in
          let after = w.in-Some.after.now in
          let parts = read.parts ∙ ap (λ (t : Text). front_text n ++ t) w.in-Some.ensures.parts in
          subst (λ (t : Text). IsRefusedAt bytes (length bytes - length t)) (sym w.in-Some.ensures.parts)
          (refused_line bytes line after n read.has parts w.in-Some.ensures.line (λ is_end. differ line w.as_slice.result.now (sym w.eq.ensures ∙ w.if-eq.false) (is_end ∙ sym w.as_slice.ensures)) (rw w.in-Err-Grammar.field-0-is at w.in-Err-Grammar.ensures.next))
      | in_default w ↦ refused_end bytes rest n read.has read.parts w.in_default.ensures.none
    ]
