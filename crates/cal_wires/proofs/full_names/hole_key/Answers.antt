use Rattle.std.proofs.Common.{◌++◌, List, ℕ, ap₂, ◌∙◌}
use Rattle.cal_wires.proofs.full_names.hole_key.Goals as goal

pub returns : goal.returns
returns c = c.in_ok-extend_from_slice.ensures.items ∙ ap₂ (λ (a b : List ℕ). a ++ b) c.in_ok-key.ensures.items c.to_be_bytes.ensures
