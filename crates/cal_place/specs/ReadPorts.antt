-- Lists of the ports that lines read. This project's.
use Rattle.std.specs.Prelude.{◌≡◌, List, ◌++◌, map, All}
use Rattle.hw_names.specs.Name.{Text}
use Rattle.cal_ast.specs.Numbers.{PortHasNumbers}
use Rattle.cal_ast.specs.Tree.{PortName, port_tree}
use Rattle.cal_ast.specs.declared.tree.CalPort.{CalPort}

-- the list has these ports
pub record AreReads (names : List Text) (reads : List PortName) (listed : List CalPort) : Type 0 where
  pub ports : map (port_tree names) listed ≡ reads
  pub numbers : All (PortHasNumbers names) listed

-- the list goes on with these ports
pub record AddsPorts (names : List Text) (old new : List CalPort) (reads : List PortName) : Type 0 where
  pub added : List CalPort
  pub longer : new ≡ old ++ added
  pub are : AreReads names reads added
