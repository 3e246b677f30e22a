-- A fact of the port of a source, if the source is one.
use Rattle.std.proofs.Common.{◌≡◌, ◌↔◌, Bool, true, ℕ, [], All, sym, subst}
use Rattle.std.specs.Bool.{IsTrue}
use Rattle.std.proofs.lemmas.List.Elements.{All-cons, All-head, All-nil}
use Rattle.net_core.specs.Graph.{source_ports}
use Rattle.net_core.specs.Guard.{source_tree}
use Rattle.net_core.specs.declared.net.Src.{Src}
use Rattle.net_core.specs.declared.net.Src.TheVariants.{Port, Lit}
use Rattle.cal_ast.specs.Tree.{PortName}
use Rattle.cal_ast.specs.declared.tree.CalPort.{CalPort}
use Rattle.cal_place.proofs.ListLemmas.{told_true}

module _ (P : PortName → Type 0) (f : CalPort → PortName) (src : Src CalPort) where
  abbrev Kept : Src CalPort → Type 0
  Kept s = All P (source_ports (source_tree f s))

  pub port_kept : (port : CalPort) (b : Bool) → src ≡ Port port → IsTrue b ↔ P (f port) → IsTrue b ↔ Kept src
  port_kept port b is told =
      let one : IsTrue b ↔ Kept (Port port) = (λ t. All-cons P (f port) [] (told.0 t) (All-nil P), λ all. told.1 (All-head P (f port) [] all)) in
      subst (λ (s : Src CalPort). IsTrue b ↔ Kept s) (sym is) one

  pub literal_kept : (width value : ℕ) → src ≡ Lit width value → IsTrue true ↔ Kept src
  literal_kept width value is = subst (λ (s : Src CalPort). IsTrue true ↔ Kept s) (sym is) (told_true (Kept (Lit width value)) (All-nil P))
