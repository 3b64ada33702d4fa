-- What a good answer is said to hold, where none stops with 22. Laws; nothing is assumed.
use Rattle.std.specs.Prelude.{◌≡◌, ℕ}
use Rattle.values.specs.Codes.{unsound}
use Rattle.tokens.specs.Descent.{Answer, good, stop, ◌>>=◌}
use Rattle.tokens.specs.AnswerLaws.{Ok}

-- a code other than 22
abbrev pub Not22 : ℕ → Type 0
Not22 k = k ≡ unsound → ⊥

-- what a good answer holds; and none stops with 22
abbrev pub Holds : {A : Type 0} → (A → Type 0) → Answer A → Type 0
Holds P (good a) = P a
Holds P (stop k) = Not22 k

-- an answer that goes on from another
pub holds_then : {A B : Type 0} (P : A → Type 0) (Q : B → Type 0) (x : Answer A) (f : A → Answer B) → Holds P x → ((a : A) → P a → Holds Q (f a)) → Holds Q (x >>= f)
holds_then P Q (good a) f h k = k a h
holds_then P Q (stop c) f h k = h

-- and what else holds of it, if it is good
pub holds-ok : {A : Type 0} (P Q : A → Type 0) (x : Answer A) → Holds P x → Ok Q x → Holds (λ a. P a × Q a) x
holds-ok P Q (good a) h k = (h, k)
holds-ok P Q (stop c) h k = h
