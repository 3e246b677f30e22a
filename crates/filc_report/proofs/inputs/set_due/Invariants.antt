use Rattle.std.proofs.Common.{◌≡◌, ◌-◌, ◌≤◌, length, slice_range}
use Rattle.std.specs.List.{AllWithin}
use Rattle.hw_bits.specs.Values.{values_of, widths_of}
use Rattle.net_core.specs.declared.stimulus.InputSet.{InputSet}
use Rattle.filc_load.specs.Given.{with_sets}
use Rattle.filc_report.proofs.inputs.set_due.Given as goal

-- the sets up to the next were due, and were made
abbrev pub invariant-loop-next : goal.invariant-loop-next
invariant-loop-next l =
    record {
      in_order : l.taken ≤ l.next;
      within : l.next ≤ length l.sets;
      due : AllWithin (λ (s : InputSet). s.from ≤ l.row) l.sets l.taken l.next;
      values : values_of l.inputs ≡ with_sets (slice_range l.sets l.taken l.next) (values_of l.fn.inputs);
      widths : widths_of l.inputs ≡ widths_of l.fn.inputs;
    }

abbrev pub decreases-loop-next : goal.decreases-loop-next
decreases-loop-next l = length l.sets - l.next
