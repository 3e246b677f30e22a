-- Texts put one after another.
use Rattle.std.proofs.Common.{◌≡◌, ◌++◌, Result, Ok, Err, OnOk, ap, ◌∙◌, append_assoc}
use Rattle.hw_names.specs.Name.{Text}

-- what was put, said in another way
pub OnOk-is : {A E : Type 0} (r : Result A E) (new text other : Text) → OnOk r (new ≡ text) → text ≡ other → OnOk r (new ≡ other)
OnOk-is (Ok x) new text other h e = h ∙ e
OnOk-is (Err x) new text other h e = h

-- one text, then another
pub put_then : (a b c p q : Text) → b ≡ a ++ p → c ≡ b ++ q → c ≡ a ++ (p ++ q)
put_then a b c p q h k = k ∙ ap (λ (t : Text). t ++ q) h ∙ append_assoc a p q
