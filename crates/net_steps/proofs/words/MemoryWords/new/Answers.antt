use Rattle.std.proofs.Common.{◌≡◌, List, ℕ, ◌<◌, ◌^◌, length, replicate, refl, sym, ap, subst, ◌∙◌}
use Rattle.std.proofs.lemmas.List.{length-replicate}
use Rattle.std.specs.Prelude.{All}
use Rattle.hw_prims.specs.Memory.{word_count, word_width}
use Rattle.hw_prims.specs.State.{Memory}
use Rattle.net_steps.proofs.WordLemmas.{opening_is, zeros_fit}
use Rattle.net_steps.proofs.words.MemoryWords.new.Goals as goal

pub returns-clause-words : goal.returns-clause-words
returns-clause-words c =
    let prim = c.args.prim in
    let zeros : c.in_ok-words.words.items ≡ replicate (word_count prim) 0 = c.in_ok-words.ensures.items_if_clones_equal (λ y same. same) ∙ ap (λ (n : ℕ). replicate n 0) c.word_count.ensures in
    record {
      prim_is = refl;
      grid_is = c.in-Some.ensures;
      count = ap length zeros ∙ length-replicate (word_count prim) 0;
      fit = subst (λ (ws : List ℕ). All (λ word. word < 2 ^ word_width prim) ws) (sym zeros) (zeros_fit (word_count prim) (word_width prim));
    }

pub returns-clause-state : goal.returns-clause-state
returns-clause-state c =
    let prim = c.args.prim in
    let zeros : c.in_ok-words.words.items ≡ replicate (word_count prim) 0 = c.in_ok-words.ensures.items_if_clones_equal (λ y same. same) ∙ ap (λ (n : ℕ). replicate n 0) c.word_count.ensures in
    ap (λ (ws : List ℕ). Memory ws 0) zeros ∙ sym (opening_is prim c.in-Some.grid c.in-Some.ensures)
