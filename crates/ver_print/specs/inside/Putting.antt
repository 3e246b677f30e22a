-- What code has put after an assignment's part of a value. This project's.
use Rattle.std.specs.Prelude.{◌≡◌, Bool, true, false, ◌++◌}
use Rattle.hw_names.specs.Name.{Text}
use Rattle.net_core.specs.Netlist.{SetLine}
use Rattle.ver_print.specs.Values.{guarded_text}

-- with a guard all but what others give; without one all
abbrev pub PutsGuarded : Text → Text → Bool → SetLine → Type 0
PutsGuarded before after true a = (others : Text) → after ++ others ≡ before ++ guarded_text a.guard a.src others
PutsGuarded before after false a = (others : Text) → after ≡ before ++ guarded_text a.guard a.src others
