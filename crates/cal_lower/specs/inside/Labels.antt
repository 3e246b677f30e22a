-- What the wires and registers of control tell, by their names. This project's.
use Rattle.std.specs.Prelude.{◌≡◌, Bool, true, false, List, Some, codes, slice_get, if◌then◌else◌}
use Rattle.hw_names.specs.Name.{Text, KeepsTexts, text_of}
use Rattle.net_core.specs.Numbers.{IsNumberOf}
use Rattle.cal_token.specs.inside.Tokens as token
use Rattle.cal_lower.specs.inside.Pieces.{Kind, Wire, Register, token_name, ends_name, acts_name, done_name, start_name, busy_name, over_name}
use Rattle.cal_lower.specs.declared.labels.Labels.{Labels}
use Rattle.cal_lower.specs.declared.labels.Texts.{Texts}
use Rattle.cal_lower.specs.declared.texts.Label.{Label}
use Rattle.cal_lower.specs.declared.texts.Label.TheVariants.{Going, Starting, Ended, Again, Ends, Acts, Done, Start, Busy, Over}

-- the name of what tells this
abbrev pub label_text : List Text → Label → Text
label_text names (Going part) = token_name (token.Going part)
label_text names (Starting part) = token_name (token.Starting part)
label_text names (Ended part) = token_name (token.Ended part)
label_text names (Again part) = token_name (token.Again part)
label_text names (Ends part) = ends_name part
label_text names (Acts group) = acts_name (text_of names group)
label_text names (Done group) = done_name (text_of names group)
label_text names Start = start_name
label_text names Busy = busy_name
label_text names Over = over_name

-- a group that it tells of is a number of the names
abbrev pub LabelHasNumber : List Text → Label → Type 0
LabelHasNumber names (Acts group) = IsNumberOf names group
LabelHasNumber names (Done group) = IsNumberOf names group
LabelHasNumber names label = Unit {0}

-- it is told a row later
abbrev pub is_register : Label → Bool
is_register (Ends part) = false
is_register (Acts group) = false
is_register (Done group) = false
is_register Start = false
is_register label = true

abbrev pub kind_of : Label → Kind
kind_of label = if is_register label then Register else Wire

-- in this list the numbers are those of the texts
pub record AreTexts (names : List Text) (texts : Texts) : Type 0 where
  pub wire : slice_get names texts.wire.0 ≡ Some (codes "std_wire")
  pub register : slice_get names texts.register.0 ≡ Some (codes "std_reg")
  pub input : slice_get names texts.input.0 ≡ Some (codes "in")
  pub enable : slice_get names texts.enable.0 ≡ Some (codes "write_en")
  pub output : slice_get names texts.output.0 ≡ Some (codes "out")

-- names are added alone
pub record KeepsLabels (old new : Labels) : Type 0 where
  pub names : KeepsTexts old.names new.names
  pub texts : new.texts ≡ old.texts
