-- Names of ports stay among names that keep their texts.
use Rattle.std.proofs.Common.{List, Contains, Option, Some, None}
use Rattle.std.specs.Option.{IfSome}
use Rattle.std.proofs.lemmas.List.Elements.{All-weaker}
use Rattle.hw_names.specs.Name.{KeepsTexts, Text}
use Rattle.fil_ast.specs.Signature.{Signature, SigEvent}
use Rattle.fil_fsm.proofs.FreshLemmas.{Contains-KeepsTexts}
use Rattle.fil_lower.specs.inside.Parts.{IsNamedEvent, IsNamedPort, NamesPorts}

pub still_named : (old new : List Text) → KeepsTexts old new → (e : SigEvent) → IsNamedEvent old e → IsNamedEvent new e
still_named old new kept e named = by e.go named
  where
    by : (go : Option Text) → IfSome go (Contains old) → IfSome go (Contains new)
    by None none = tt
    by (Some text) there = Contains-KeepsTexts old new text kept there

pub NamesPorts-kept : (old new : List Text) → KeepsTexts old new → (sig : Signature) → NamesPorts old sig → NamesPorts new sig
NamesPorts-kept old new kept sig named = record {
  inputs = All-weaker (IsNamedPort old) (IsNamedPort new) (λ p there. Contains-KeepsTexts old new p.name kept there) sig.ins named.inputs;
  interfaces = All-weaker (IsNamedEvent old) (IsNamedEvent new) (still_named old new kept) sig.events named.interfaces;
}
