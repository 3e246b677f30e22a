-- What the file of a design gives, by its language, or why it gives nothing. This project's.
use Rattle.std.specs.Prelude.{◌≡◌, ◌⊎◌, ℕ, ◌+◌, ◌<◌, ◌≤◌, length, slice_get, codes, Some}
use Rattle.hw_names.specs.Name.{Text}
use Rattle.fil_ast.specs.Top.{IsTop}
use Rattle.cal_ast.specs.Tree as calyx
use Rattle.fil_ast.specs.Tree.{Component, Design}
use Rattle.net_core.specs.Netlist.{Netlist}
use Rattle.filc_stop.specs.Language.{most_bytes}
use Rattle.filc_stop.specs.Lines.{limit_line}
use Rattle.filc_stop.specs.Outcome.{Contents, Outcome, refused_with}
use Rattle.filc_stop.specs.declared.ended.Ended.{Ended}
use Rattle.filc_stop.specs.declared.ended.Ended.TheVariants.{Limit}
use Rattle.filc_stop.specs.declared.language.Language.{Language}
use Rattle.filc_stop.specs.declared.language.Language.TheVariants.{Netlists, Filament, Calyx}
use Rattle.filc_load.specs.CalFile
use Rattle.filc_load.specs.CalFile.{GivesCal}
use Rattle.filc_load.specs.FilFile
use Rattle.filc_load.specs.FilFile.{GivesFil}
use Rattle.filc_load.specs.NetFile
use Rattle.filc_load.specs.NetFile.{GivesNet}

-- the told content of the file is this text, within the limit of the language
pub record Tells (contents : Contents) (language : Language) (file bytes : Text) : Type 0 where
  pub told : contents file ≡ Some bytes
  pub within : length bytes ≤ most_bytes language

-- the told content of the file has more bytes than the limit of the language
pub record IsTooLong (contents : Contents) (language : Language) (file : Text) : Type 0 where
  pub bytes : Text
  pub told : contents file ≡ Some bytes
  pub over : most_bytes language < length bytes

-- a text in this language is refused so
abbrev pub IsRefusedIn : Language → Text → Ended → Text → Type 0
IsRefusedIn Netlists text ended line = NetFile.IsRefused text ended line
IsRefusedIn Filament text ended line = FilFile.IsRefused text ended line
IsRefusedIn Calyx text ended line = CalFile.IsRefused text ended line

-- the text of the file is refused so
pub record IsTextRefused (contents : Contents) (language : Language) (file : Text) (ended : Ended) (line : Text) : Type 0 where
  pub bytes : Text
  pub tells : Tells contents language file bytes
  pub refused : IsRefusedIn language bytes ended line

-- the line of a text that is too long: the bytes beyond the first one over the limit are not counted
abbrev pub too_long_line : Language → Text
too_long_line language = limit_line (codes "source") (most_bytes language + 1) (most_bytes language)

-- the file gives no design: its text is too long, or is refused
abbrev pub IsSourceRefused : Contents → Language → Text → Ended → Text → Type 0
IsSourceRefused contents language file ended line =
    (IsTooLong contents language file × (ended ≡ Limit) × (line ≡ too_long_line language)) ⊎ IsTextRefused contents language file ended line

-- the file gives this netlist
pub record FileGivesNet (contents : Contents) (file : Text) (n : Netlist) : Type 0 where
  pub bytes : Text
  pub tells : Tells contents Netlists file bytes
  pub gives : GivesNet bytes n

-- the file gives this Filament design
pub record FileGivesFil (contents : Contents) (file : Text) (design : Design) : Type 0 where
  pub bytes : Text
  pub tells : Tells contents Filament file bytes
  pub gives : GivesFil bytes design

-- the file gives this Calyx design
pub record FileGivesCal (contents : Contents) (file : Text) (design : calyx.Design) : Type 0 where
  pub bytes : Text
  pub tells : Tells contents Calyx file bytes
  pub gives : GivesCal bytes design

-- the file gives this Filament design, and the component with this number is its top one
pub record FileGivesTop (contents : Contents) (file : Text) (design : Design) (number : ℕ) (c : Component) : Type 0 where
  pub gives : FileGivesFil contents file design
  pub top : IsTop design number
  pub at : slice_get design number ≡ Some c

-- the file is accepted: it gives what a file in this language is to give
abbrev pub IsAccepted : Contents → Language → Text → Type 0
IsAccepted contents Netlists file = (n : Netlist) × FileGivesNet contents file n
IsAccepted contents Filament file = (design : Design) × FileGivesFil contents file design
IsAccepted contents Calyx file = (design : calyx.Design) × FileGivesCal contents file design

-- the command is refused, as its design's file gives no design
pub record IsRefusedForSource (contents : Contents) (language : Language) (file : Text) (o : Outcome) : Type 0 where
  pub ended : Ended
  pub line : Text
  pub source : IsSourceRefused contents language file ended line
  pub outcome : o ≡ refused_with ended line
