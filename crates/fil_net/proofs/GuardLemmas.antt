-- Assignments of wires that are lowered to: their guards ask for bits, and their literals can be written; so they have texts.
use Rattle.std.proofs.Common.{◌≡◌, ℕ, ◌+◌, ◌≤◌, ◌^◌, true, nat_le, List, [], ◌∷◌, map, All, Option, option_map, refl, arith}
use Rattle.std.proofs.Math.Pow.{pow_mono}
use Rattle.std.proofs.lemmas.Bool.Decides.{nat_tests}
use Rattle.std.proofs.lemmas.List.Elements.{All-head, All-tail}
use Rattle.hw_names.specs.Name.{Text}
use Rattle.hw_grammar.specs.Words.{IsWritten}
use Rattle.net_core.specs.Guard.{GuardTree, GuardTrees, Reads, guards_of, source_tree}
use Rattle.net_core.specs.Graph.{guards_ports, option_ports, source_ports}
use Rattle.net_core.specs.declared.net.Src.{Src}
use Rattle.net_core.specs.declared.net.Src.TheVariants.{Port, Lit}
use Rattle.net_text.specs.Names.{count_guards, guards_have_text, is_number, is_path, source_has_text, when_has_text}
use Rattle.cal_ast.specs.Tree.{PortName, Assignment}
use Rattle.cal_ast.specs.Typing.{LiteralFits}
use Rattle.fil_lower.specs.Lowers.{AsksForBits, Always, Never, OfOne, OfSome}
use Rattle.net_flat.specs.Listing.{map_guard, map_guards}
use Rattle.fil_net.proofs.SegmentLemmas.{both, number_text}

abbrev pub SourceIsWritten : Src PortName → Type 0
SourceIsWritten (Port p) = Unit {0}
SourceIsWritten (Lit width value) = IsWritten width × IsWritten value

abbrev pub IsBitSet : Assignment → Type 0
IsBitSet a = AsksForBits a.guard × SourceIsWritten a.src

-- by C4 a literal can be written
pub literal_written : (s : Src PortName) → LiteralFits s → SourceIsWritten s
literal_written (Port p) fits = tt
literal_written (Lit width value) (wide, small) =
    let most : width ≤ 128 = wide.1 in
    let powers : 2 ^ width ≤ 2 ^ 128 = pow_mono most in
    (omega (arith, most), omega (arith, powers, small))

two_or_more : (n : ℕ) → nat_le 2 (n + 1 + 1) ≡ true
two_or_more n = grind (arith, nat_tests)

-- where the ports that they read have texts by f
module _ (f : PortName → Text) where
  abbrev IsPath : PortName → Type 0
  IsPath p = is_path (f p) ≡ true

  -- the guards that each of the bits is 1
  abbrev reads : List PortName → GuardTrees PortName
  reads bits = guards_of (map (λ (p : PortName). Reads (Port p)) bits)

  pub source_text : (s : Src PortName) → SourceIsWritten s → All IsPath (source_ports s) → source_has_text (source_tree f s) ≡ true
  source_text (Port p) written paths = All-head IsPath p [] paths
  source_text (Lit width value) written paths = both (is_number width) (is_number value) (number_text width written.0) (number_text value written.1)

  bits_text : (bits : List PortName) → All IsPath (guards_ports (reads bits)) → guards_have_text (map_guards f (reads bits)) ≡ true
  bits_text [] paths = refl
  bits_text (bit ∷ bits) paths =
      both (is_path (f bit)) (guards_have_text (map_guards f (reads bits))) (All-head IsPath bit (guards_ports (reads bits)) paths) (bits_text bits (All-tail IsPath bit (guards_ports (reads bits)) paths))

  pub when_text : (guard : Option (GuardTree PortName)) → AsksForBits guard → All IsPath (option_ports guard) → when_has_text (option_map (map_guard f) guard) ≡ true
  when_text guard Always paths = refl
  when_text guard Never paths = refl
  when_text guard (OfOne bit) paths = All-head IsPath bit [] paths
  when_text guard (OfSome bit next bits) paths =
      let guards = map_guards f (reads (bit ∷ next ∷ bits)) in
      both (nat_le 2 (count_guards guards)) (guards_have_text guards) (two_or_more (count_guards (map_guards f (reads bits)))) (bits_text (bit ∷ next ∷ bits) paths)
