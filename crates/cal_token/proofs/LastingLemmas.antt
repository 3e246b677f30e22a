-- What tokens say is left of a plan takes a row.
use Rattle.std.proofs.Common.{◌≡◌, ℕ, false, refl, ◌∙◌}
use Rattle.std.proofs.lemmas.Bool.{and_left, and_right}
use Rattle.cal_ast.specs.Plan.{Plan, Plans}
use Rattle.cal_walk.specs.Left.{is_over, are_over}
use Rattle.cal_token.specs.inside.Coming.{Leaves, GoesOn, InOrder, Together, OnBranch, OffBranch, InBody, AtTest, LeavesLater, IsStarting, IsOn}
use Rattle.cal_token.specs.inside.Coming.{LeavesInTurn, PastOne, InFirst, InOthers, LeaveOthers, Here, AfterEnded, Later, FirstStarts, Over, ByToken}
use Rattle.cal_token.specs.inside.Tokens.{Tokens}
use Rattle.cal_token.proofs.OverLemmas.{is_over_before, before_lasts}

module _ (v : Tokens) where
  pub first_lasts : (k : ℕ) (ps : Plans) → FirstStarts v k ps → are_over ps ≡ false
  first_lasts k ps (Over _ p others over first) = and_right (is_over p) (are_over others) (first_lasts _ others first)
  first_lasts k ps (ByToken _ p others more starts off away) = and_left (is_over p) (are_over others) more

  pub part_lasts : (k : ℕ) (p rest : Plan) → LeavesLater v k p rest → is_over p ≡ false
  part_lasts k p rest (IsStarting _ _ more starts off) = more
  part_lasts k p rest (IsOn _ _ _ more starts leaves) = more

  pub others_last : (k : ℕ) (ps : Plans) (rest : Plan) → LeaveOthers v k ps rest → are_over ps ≡ false
  others_last k ps rest (Here _ p others first leaves away) = and_left (is_over p) (are_over others) (part_lasts _ p first leaves)
  others_last k ps rest (AfterEnded _ _ ended over first) = first_lasts k ps first
  others_last k ps rest (Later _ p others _ off leave) = and_right (is_over p) (are_over others) (others_last _ others rest leave)

  mutual
    pub rest_lasts : (k : ℕ) (p rest : Plan) → Leaves v k p rest → is_over rest ≡ false
    rest_lasts k p rest (GoesOn _ actor going) = refl
    rest_lasts k p rest (InOrder _ ps _ leaves) = rest_in_turn_lasts _ ps rest leaves
    rest_lasts k p rest (Together _ ps rests lasts leave) = lasts
    rest_lasts k p rest (OnBranch _ port by on off _ leaves away) = rest_of_part_lasts _ on rest leaves
    rest_lasts k p rest (OffBranch _ port by on off _ away leaves) = rest_of_part_lasts _ off rest leaves
    rest_lasts k p rest (InBody _ port by body turn again leaves) = and_right (is_over turn) false refl
    rest_lasts k p rest (AtTest _ port by body ended again away over) = and_right (is_over ended) false refl

    pub rest_of_part_lasts : (k : ℕ) (p rest : Plan) → LeavesLater v k p rest → is_over rest ≡ false
    rest_of_part_lasts k p rest (IsStarting _ _ more starts off) = more
    rest_of_part_lasts k p rest (IsOn _ _ _ more starts leaves) = rest_lasts _ p rest leaves

    rest_in_turn_lasts : (k : ℕ) (ps : Plans) (rest : Plan) → LeavesInTurn v k ps rest → is_over rest ≡ false
    rest_in_turn_lasts k ps rest (PastOne _ p others _ over leaves) = rest_in_turn_lasts _ others rest leaves
    rest_in_turn_lasts k ps rest (InFirst _ p others first more leaves away) = before_lasts first others (rest_lasts _ p first leaves)
    rest_in_turn_lasts k ps rest (InOthers _ p others _ more off leave) = rest_of_others_lasts _ others rest leave

    rest_of_others_lasts : (k : ℕ) (ps : Plans) (rest : Plan) → LeaveOthers v k ps rest → is_over rest ≡ false
    rest_of_others_lasts k ps rest (Here _ p others first leaves away) = before_lasts first others (rest_of_part_lasts _ p first leaves)
    rest_of_others_lasts k ps rest (AfterEnded _ _ ended over first) =
        is_over_before ended ps ∙ and_right (is_over ended) (are_over ps) (first_lasts _ ps first)
    rest_of_others_lasts k ps rest (Later _ p others _ off leave) = rest_of_others_lasts _ others rest leave
