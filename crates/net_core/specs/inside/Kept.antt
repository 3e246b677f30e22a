-- Which of the rules N2 to N4 an assignment, a guard or several keep, as code finds it. This project's.
use Rattle.std.specs.Prelude.{ℕ, true, false, ◌&&◌, ◌==◌, List, Option, Some, None, if◌then◌else◌}
use Rattle.hw_names.specs.Name.{Text}
use Rattle.net_core.specs.Guard.{GuardTree, GuardTrees}
use Rattle.net_core.specs.Netlist.{SetLine, SetOf}
use Rattle.net_core.specs.Rules.{PortLine, each_read, each_reads, source_exists, literal_fits, source_is_readable, guard_widths_agree, guards_widths_agree}
use Rattle.net_core.specs.Rules.{has_known_names, has_good_widths, has_good_sides}
use Rattle.net_core.specs.declared.ports.Port.{Port}
use Rattle.net_core.specs.declared.sets.Kept.{Kept}
use Rattle.net_core.specs.declared.sets.Source.{Source}

abbrev pub all_kept : Kept
all_kept = record { known = true; widths = true; sides = true }

abbrev pub both_kept : Kept → Kept → Kept
both_kept a b = record { known = a.known && b.known; widths = a.widths && b.widths; sides = a.sides && b.sides }

-- where a source stands alone as a guard
abbrev pub kept_alone : Source → Kept
kept_alone s = record { known = s.known; widths = s.fits && (s.width == 1); sides = s.readable }

-- where two sources are compared
abbrev pub kept_compared : Source → Source → Kept
kept_compared a b =
    record { known = a.known && b.known; widths = a.fits && b.fits && (a.width == b.width); sides = a.readable && b.readable }

-- where a source drives a port, if there is one of the name
abbrev pub kept_driven : Option Port → Source → Kept
kept_driven None s = record { known = false; widths = s.fits && (0 == s.width); sides = false }
kept_driven (Some p) s = record { known = s.known; widths = s.fits && (p.width == s.width); sides = p.writable && s.readable }

unfoldable pub kept_by_guard : List PortLine → GuardTree Text → Kept
kept_by_guard ports g =
    record {
      known = each_read (source_exists ports) g;
      widths = each_read literal_fits g && guard_widths_agree ports g;
      sides = each_read (source_is_readable ports) g;
    }

unfoldable pub kept_by_guards : List PortLine → GuardTrees Text → Kept
kept_by_guards ports gs =
    record {
      known = each_reads (source_exists ports) gs;
      widths = each_reads literal_fits gs && guards_widths_agree ports gs;
      sides = each_reads (source_is_readable ports) gs;
    }

abbrev pub kept_by_option : List PortLine → Option (GuardTree Text) → Kept
kept_by_option ports None = all_kept
kept_by_option ports (Some g) = kept_by_guard ports g

unfoldable pub kept_by_set : List PortLine → SetLine → Kept
kept_by_set ports a =
    record {
      known = has_known_names ports (SetOf a);
      widths = has_good_widths ports (SetOf a);
      sides = has_good_sides ports (SetOf a);
    }

-- the least rule that is not kept
abbrev pub fault_of : Kept → Option ℕ
fault_of kept = if kept.known then (if kept.widths then (if kept.sides then None else Some 4) else Some 3) else Some 2
