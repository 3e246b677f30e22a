-- The least of the rules C1 to C11 that is broken at an item.
use Rattle.std.proofs.Common.{zero, suc, List, [], ◌∷◌, All, arith}
use Rattle.cal_ast.specs.Rules.{Rule, C1, C2, C3, C4, C5, C6, C7, C8, C9, C10, C11, all_rules}
use Rattle.cal_rules.specs.LeastRule.{IsLeast}
use Rattle.cal_rules.specs.declared.rule.Rule.TheVariants as number

module _ (K : Rule → Type 0) where
  none_before : All K []
  none_before k d within = absurd (omega arith)

  one_more : (r : Rule) (rs : List Rule) → K r → All K rs → All K (r ∷ rs)
  one_more r rs here all zero d within = here
  one_more r rs here all (suc k) d within = all k d (omega arith)

  pub is_C1 : ¬ K C1 → IsLeast K number.C1
  is_C1 broken = record { lesser = none_before; broken = broken }

  pub is_C2 : K C1 → ¬ K C2 → IsLeast K number.C2
  is_C2 k1 broken = record { lesser = (one_more C1 ([]) k1 none_before); broken = broken }

  pub is_C3 : K C1 → K C2 → ¬ K C3 → IsLeast K number.C3
  is_C3 k1 k2 broken = record { lesser = (one_more C1 (C2 ∷ []) k1 (one_more C2 ([]) k2 none_before)); broken = broken }

  pub is_C4 : K C1 → K C2 → K C3 → ¬ K C4 → IsLeast K number.C4
  is_C4 k1 k2 k3 broken = record { lesser = (one_more C1 (C2 ∷ C3 ∷ []) k1 (one_more C2 (C3 ∷ []) k2 (one_more C3 ([]) k3 none_before))); broken = broken }

  pub is_C5 : K C1 → K C2 → K C3 → K C4 → ¬ K C5 → IsLeast K number.C5
  is_C5 k1 k2 k3 k4 broken = record { lesser = (one_more C1 (C2 ∷ C3 ∷ C4 ∷ []) k1 (one_more C2 (C3 ∷ C4 ∷ []) k2 (one_more C3 (C4 ∷ []) k3 (one_more C4 ([]) k4 none_before)))); broken = broken }

  pub is_C6 : K C1 → K C2 → K C3 → K C4 → K C5 → ¬ K C6 → IsLeast K number.C6
  is_C6 k1 k2 k3 k4 k5 broken = record { lesser = (one_more C1 (C2 ∷ C3 ∷ C4 ∷ C5 ∷ []) k1 (one_more C2 (C3 ∷ C4 ∷ C5 ∷ []) k2 (one_more C3 (C4 ∷ C5 ∷ []) k3 (one_more C4 (C5 ∷ []) k4 (one_more C5 ([]) k5 none_before))))); broken = broken }

  pub is_C7 : K C1 → K C2 → K C3 → K C4 → K C5 → K C6 → ¬ K C7 → IsLeast K number.C7
  is_C7 k1 k2 k3 k4 k5 k6 broken = record { lesser = (one_more C1 (C2 ∷ C3 ∷ C4 ∷ C5 ∷ C6 ∷ []) k1 (one_more C2 (C3 ∷ C4 ∷ C5 ∷ C6 ∷ []) k2 (one_more C3 (C4 ∷ C5 ∷ C6 ∷ []) k3 (one_more C4 (C5 ∷ C6 ∷ []) k4 (one_more C5 (C6 ∷ []) k5 (one_more C6 ([]) k6 none_before)))))); broken = broken }

  pub is_C8 : K C1 → K C2 → K C3 → K C4 → K C5 → K C6 → K C7 → ¬ K C8 → IsLeast K number.C8
  is_C8 k1 k2 k3 k4 k5 k6 k7 broken = record { lesser = (one_more C1 (C2 ∷ C3 ∷ C4 ∷ C5 ∷ C6 ∷ C7 ∷ []) k1 (one_more C2 (C3 ∷ C4 ∷ C5 ∷ C6 ∷ C7 ∷ []) k2 (one_more C3 (C4 ∷ C5 ∷ C6 ∷ C7 ∷ []) k3 (one_more C4 (C5 ∷ C6 ∷ C7 ∷ []) k4 (one_more C5 (C6 ∷ C7 ∷ []) k5 (one_more C6 (C7 ∷ []) k6 (one_more C7 ([]) k7 none_before))))))); broken = broken }

  pub is_C9 : K C1 → K C2 → K C3 → K C4 → K C5 → K C6 → K C7 → K C8 → ¬ K C9 → IsLeast K number.C9
  is_C9 k1 k2 k3 k4 k5 k6 k7 k8 broken = record { lesser = (one_more C1 (C2 ∷ C3 ∷ C4 ∷ C5 ∷ C6 ∷ C7 ∷ C8 ∷ []) k1 (one_more C2 (C3 ∷ C4 ∷ C5 ∷ C6 ∷ C7 ∷ C8 ∷ []) k2 (one_more C3 (C4 ∷ C5 ∷ C6 ∷ C7 ∷ C8 ∷ []) k3 (one_more C4 (C5 ∷ C6 ∷ C7 ∷ C8 ∷ []) k4 (one_more C5 (C6 ∷ C7 ∷ C8 ∷ []) k5 (one_more C6 (C7 ∷ C8 ∷ []) k6 (one_more C7 (C8 ∷ []) k7 (one_more C8 ([]) k8 none_before)))))))); broken = broken }

  pub is_C10 : K C1 → K C2 → K C3 → K C4 → K C5 → K C6 → K C7 → K C8 → K C9 → ¬ K C10 → IsLeast K number.C10
  is_C10 k1 k2 k3 k4 k5 k6 k7 k8 k9 broken = record { lesser = (one_more C1 (C2 ∷ C3 ∷ C4 ∷ C5 ∷ C6 ∷ C7 ∷ C8 ∷ C9 ∷ []) k1 (one_more C2 (C3 ∷ C4 ∷ C5 ∷ C6 ∷ C7 ∷ C8 ∷ C9 ∷ []) k2 (one_more C3 (C4 ∷ C5 ∷ C6 ∷ C7 ∷ C8 ∷ C9 ∷ []) k3 (one_more C4 (C5 ∷ C6 ∷ C7 ∷ C8 ∷ C9 ∷ []) k4 (one_more C5 (C6 ∷ C7 ∷ C8 ∷ C9 ∷ []) k5 (one_more C6 (C7 ∷ C8 ∷ C9 ∷ []) k6 (one_more C7 (C8 ∷ C9 ∷ []) k7 (one_more C8 (C9 ∷ []) k8 (one_more C9 ([]) k9 none_before))))))))); broken = broken }

  pub is_C11 : K C1 → K C2 → K C3 → K C4 → K C5 → K C6 → K C7 → K C8 → K C9 → K C10 → ¬ K C11 → IsLeast K number.C11
  is_C11 k1 k2 k3 k4 k5 k6 k7 k8 k9 k10 broken = record { lesser = (one_more C1 (C2 ∷ C3 ∷ C4 ∷ C5 ∷ C6 ∷ C7 ∷ C8 ∷ C9 ∷ C10 ∷ []) k1 (one_more C2 (C3 ∷ C4 ∷ C5 ∷ C6 ∷ C7 ∷ C8 ∷ C9 ∷ C10 ∷ []) k2 (one_more C3 (C4 ∷ C5 ∷ C6 ∷ C7 ∷ C8 ∷ C9 ∷ C10 ∷ []) k3 (one_more C4 (C5 ∷ C6 ∷ C7 ∷ C8 ∷ C9 ∷ C10 ∷ []) k4 (one_more C5 (C6 ∷ C7 ∷ C8 ∷ C9 ∷ C10 ∷ []) k5 (one_more C6 (C7 ∷ C8 ∷ C9 ∷ C10 ∷ []) k6 (one_more C7 (C8 ∷ C9 ∷ C10 ∷ []) k7 (one_more C8 (C9 ∷ C10 ∷ []) k8 (one_more C9 (C10 ∷ []) k9 (one_more C10 ([]) k10 none_before)))))))))); broken = broken }

  pub all_kept : K C1 → K C2 → K C3 → K C4 → K C5 → K C6 → K C7 → K C8 → K C9 → K C10 → K C11 → All K all_rules
  all_kept k1 k2 k3 k4 k5 k6 k7 k8 k9 k10 k11 = (one_more C1 (C2 ∷ C3 ∷ C4 ∷ C5 ∷ C6 ∷ C7 ∷ C8 ∷ C9 ∷ C10 ∷ C11 ∷ []) k1 (one_more C2 (C3 ∷ C4 ∷ C5 ∷ C6 ∷ C7 ∷ C8 ∷ C9 ∷ C10 ∷ C11 ∷ []) k2 (one_more C3 (C4 ∷ C5 ∷ C6 ∷ C7 ∷ C8 ∷ C9 ∷ C10 ∷ C11 ∷ []) k3 (one_more C4 (C5 ∷ C6 ∷ C7 ∷ C8 ∷ C9 ∷ C10 ∷ C11 ∷ []) k4 (one_more C5 (C6 ∷ C7 ∷ C8 ∷ C9 ∷ C10 ∷ C11 ∷ []) k5 (one_more C6 (C7 ∷ C8 ∷ C9 ∷ C10 ∷ C11 ∷ []) k6 (one_more C7 (C8 ∷ C9 ∷ C10 ∷ C11 ∷ []) k7 (one_more C8 (C9 ∷ C10 ∷ C11 ∷ []) k8 (one_more C9 (C10 ∷ C11 ∷ []) k9 (one_more C10 (C11 ∷ []) k10 (one_more C11 ([]) k11 none_before)))))))))))
