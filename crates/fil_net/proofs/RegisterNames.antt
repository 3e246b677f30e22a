-- Names of registers are names of netlists.
use Rattle.std.proofs.Common.{◌≡◌, ℕ, true, sym, subst, arith}
use Rattle.std.proofs.lemmas.Bool.Decides.{nat_tests}
use Rattle.std.proofs.lemmas.List.Elements.{All-weaker}
use Rattle.std.proofs.lemmas.List.Sums.{list_all-from_AllPass}
use Rattle.hw_names.specs.Name.{Text}
use Rattle.net_text.specs.Names.{continues_name}
use Rattle.fil_promise.specs.Refines.{IsDigit, IsGenerated}
use Rattle.fil_net.proofs.SegmentLemmas.{IsSegment}

digit_goes_on : (byte : ℕ) → IsDigit byte → continues_name byte ≡ true
digit_goes_on byte is = grind (arith, nat_tests)

pub register_segment : (name : Text) → IsGenerated name → IsSegment name
register_segment name (digits, is, all) =
    subst IsSegment (sym is) (list_all-from_AllPass continues_name digits (All-weaker IsDigit (λ (byte : ℕ). continues_name byte ≡ true) digit_goes_on digits all))
