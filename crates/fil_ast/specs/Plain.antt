-- That the names of a design are plain: not empty, and without a dot, so that names joined by dots are apart. This project's.
use Rattle.std.specs.Prelude.{All, flat_map}
use Rattle.hw_names.specs.Name.{IsPlain}
use Rattle.fil_ast.specs.Scope.{Instance, instances_at}
use Rattle.fil_ast.specs.Tree.{Interface, DataPort, Component, Design}

abbrev pub IsPlainInterface : Interface → Type 0
IsPlainInterface g = IsPlain g.name

abbrev pub IsPlainPort : DataPort → Type 0
IsPlainPort p = IsPlain p.name

abbrev pub IsPlainInstance : Instance → Type 0
IsPlainInstance i = IsPlain i.name

-- the ports and the instances of a component have plain names
pub record IsPlainComponent (c : Component) : Type 0 where
  pub interfaces : All IsPlainInterface c.interfaces
  pub ins : All IsPlainPort c.ins
  pub outs : All IsPlainPort c.outs
  pub instances : All IsPlainInstance (flat_map instances_at c.body)

abbrev pub HasPlainTree : Design → Type 0
HasPlainTree comps = All IsPlainComponent comps
