-- What control makes act in a component: its groups, and its invokes, each of which stands for a group. This project's.
use Rattle.std.specs.Prelude.{ℕ, ◌==◌, Bool, false, List, [], ◌++◌, map, find, bytes_eq, Option, option_map}
use Rattle.hw_names.specs.Name.{Text}
use Rattle.cal_ast.specs.Invoking.{InvokeDef, invokes_in, invoke_group}
use Rattle.cal_ast.specs.Tree.{GroupDef, Component, Design}

pub data Actor : Type 0 where
  -- the group of this name
  GroupNamed : Text → Actor
  -- the invoke at this item; two invokes are two actors, also where they are alike
  InvokeAt : ℕ → Actor

abbrev pub same_actor : Actor → Actor → Bool
same_actor (GroupNamed a) (GroupNamed b) = bytes_eq a b
same_actor (InvokeAt j) (InvokeAt k) = j == k
same_actor a b = false

-- the groups in text order, and then the invokes by their items
abbrev pub actors_of : Component → List Actor
actors_of c = map (λ (g : GroupDef). GroupNamed g.name) c.groups ++ map (λ (i : InvokeDef). InvokeAt i.item) (invokes_in c)

-- an actor with the group that it stands for; that of an invoke has the empty name
pub record ActorGroup : Type 0 where
  pub actor : Actor
  pub group : GroupDef

abbrev pub own_group : GroupDef → ActorGroup
own_group g = record { actor = GroupNamed g.name; group = g }

abbrev pub invoked_group : Design → Component → InvokeDef → ActorGroup
invoked_group design c i = record { actor = InvokeAt i.item; group = invoke_group design c [] i }

-- the actors in their order, each with its group
abbrev pub actor_groups : Design → Component → List ActorGroup
actor_groups design c = map own_group c.groups ++ map (invoked_group design c) (invokes_in c)

-- the group that an actor of the component stands for
abbrev pub group_of : Design → Component → Actor → Option GroupDef
group_of design c actor = option_map (λ (a : ActorGroup). a.group) (find (λ (a : ActorGroup). same_actor a.actor actor) (actor_groups design c))
