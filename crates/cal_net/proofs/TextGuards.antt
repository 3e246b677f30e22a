-- Guards and sources that can be written have texts in netlists.
use Rattle.std.proofs.Common.{◌≡◌, ℕ, ◌+◌, true, nat_le, Option, Some, None, option_map, refl, arith}
use Rattle.std.proofs.lemmas.Bool.Decides.{nat_tests}
use Rattle.hw_names.specs.Name.{Text}
use Rattle.net_core.specs.Guard.{AllOf, AnyOf, Compares, GuardTree, GuardTrees, MoreGuards, Negates, NoGuards, Reads, source_tree}
use Rattle.net_core.specs.declared.net.Src.{Src}
use Rattle.net_core.specs.declared.net.Src.TheVariants.{Lit, Port}
use Rattle.net_flat.specs.Listing.{map_guard, map_guards}
use Rattle.net_text.specs.Names.{count_guards, guard_has_text, guards_have_text, is_number, is_path, source_has_text, when_has_text}
use Rattle.cal_ast.specs.Tree.{PortName}
use Rattle.cal_ast.specs.Written.{GuardIsWritten, GuardsAreWritten, HasTwoGuards, PortIsWritten, SourceIsWritten, WhenIsWritten}
use Rattle.cal_net.proofs.TextSegments.{number_text}
use Rattle.cal_group.proofs.WrittenNames.{both_are}

two_or_more : (n : ℕ) → nat_le 2 (n + 1 + 1) ≡ true
two_or_more n = grind (arith, nat_tests)

-- where the ports have paths by f
module _ (f : PortName → Text) (path : (p : PortName) → PortIsWritten p → is_path (f p) ≡ true) where
  pub source_text : (s : Src PortName) → SourceIsWritten s → source_has_text (source_tree f s) ≡ true
  source_text (Port p) is = path p is
  source_text (Lit width value) is = both_are (is_number width) (is_number value) (number_text width is.0) (number_text value is.1)

  two_guards : (gs : GuardTrees PortName) → HasTwoGuards gs → nat_le 2 (count_guards (map_guards f gs)) ≡ true
  two_guards NoGuards two = absurd two
  two_guards (MoreGuards g NoGuards) two = absurd two
  two_guards (MoreGuards g (MoreGuards h gs)) two = two_or_more (count_guards (map_guards f gs))

  mutual
    guard_text : (g : GuardTree PortName) → GuardIsWritten g → guard_has_text (map_guard f g) ≡ true
    guard_text (Reads s) is = source_text s is
    guard_text (Compares op a b) is = both_are (source_has_text (source_tree f a)) (source_has_text (source_tree f b)) (source_text a is.0) (source_text b is.1)
    guard_text (Negates g) is = guard_text g is
    guard_text (AllOf gs) is = both_are (nat_le 2 (count_guards (map_guards f gs))) (guards_have_text (map_guards f gs)) (two_guards gs is.0) (guards_text gs is.1)
    guard_text (AnyOf gs) is = both_are (nat_le 2 (count_guards (map_guards f gs))) (guards_have_text (map_guards f gs)) (two_guards gs is.0) (guards_text gs is.1)

    guards_text : (gs : GuardTrees PortName) → GuardsAreWritten gs → guards_have_text (map_guards f gs) ≡ true
    guards_text NoGuards are = refl
    guards_text (MoreGuards g gs) are = both_are (guard_has_text (map_guard f g)) (guards_have_text (map_guards f gs)) (guard_text g are.0) (guards_text gs are.1)

  pub when_text : (guard : Option (GuardTree PortName)) → WhenIsWritten guard → when_has_text (option_map (map_guard f) guard) ≡ true
  when_text None is = refl
  when_text (Some guard) is = guard_text guard is
