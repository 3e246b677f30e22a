-- What holds by classical logic: that it doesn't hold is refuted, which is less than to have a case of it computed. So is said that something exists where
-- only a program finds it, and may find no memory for that. This project's.

abbrev pub Classically : Type 0 → Type 0
Classically A = (A → ⊥) → ⊥
