-- What Calyx text a Filament design is lowered to. Filament, PLDI 2023; Calyx, ASPLOS 2021; the words are this project's.
use Rattle.std.specs.Prelude.{◌≡◌, ◌≢◌, ℕ, codes, take, slice_get, Some, All}
use Rattle.hw_names.specs.Name.{Text}
use Rattle.hw_prims.specs.Table.{pin_names}
use Rattle.cal_ast.specs.Tree as calyx
use Rattle.cal_parse.specs.Spelling.{SpellsDesign}
use Rattle.cal_ast.specs.Written.{IsCalName}
use Rattle.cal_print.specs.Layout.{design_text}
use Rattle.fil_ast.specs.Naming.{instance_names}
use Rattle.fil_ast.specs.Tree.{Component, Design}
use Rattle.fil_ast.specs.Wires.{whole_scope}
use Rattle.fil_promise.specs.Refines.{inputs_of, outputs_of}
use Rattle.fil_lower.specs.Lowers.{Lowers}

-- a name of Calyx's grammar that an input may have there: texts of Calyx may have inputs `clk` and `reset`, which are not read
abbrev pub IsCalInput : Text → Type 0
IsCalInput name = IsCalName name × (name ≢ codes "clk") × (name ≢ codes "reset")

-- the names of component n are names of Calyx's grammar: no keyword of it among them
pub record HasCalNames (comps : Design) (n : ℕ) (c : Component) : Type 0 where
  pub name : IsCalName c.name
  pub ins : All IsCalInput (pin_names (inputs_of c))
  pub outs : All IsCalName (pin_names (outputs_of c))
  pub instances : All IsCalName (instance_names (whole_scope (take n comps) c).instances)

abbrev pub HaveCalNames : Design → Type 0
HaveCalNames comps = (n : ℕ) (c : Component) → slice_get comps n ≡ Some c → HasCalNames comps n c

-- the text is the canonical one of a design of wires that keeps what the Filament design promises, and where its names are Calyx's it spells that design, so
-- it is read back to the same tree
pub record IsLoweredText (comps : Design) (text : Text) : Type 0 where
  pub design : calyx.Design
  pub lowers : Lowers comps design
  pub is : text ≡ design_text design
  pub spells : HaveCalNames comps → SpellsDesign text design
