use Rattle.std.proofs.Common.{ℕ, refl, ◌∙◌}
use Rattle.std.proofs.lemmas.Simd.{splat_is_map}
use Rattle.fil_check.proofs.weight.Asked.new.Goals as goal

pub returns : goal.returns
returns c names same =
    let none : ℕ = 0 in
    record { rows = refl; greatest = c.in_ok-vec.ensures.items_if_clones_equal (λ y same. same) ∙ splat_is_map names c.args.events none same }
