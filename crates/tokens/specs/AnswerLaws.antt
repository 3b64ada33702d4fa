-- What holds of an answer, if it is good: laws of Descent's answers. Assumes nothing.
use Rattle.std.specs.Prelude.{◌≡◌, refl}
use Rattle.values.specs.Numbers.{clash}
use Rattle.tokens.specs.Descent.{Answer, good, stop, ◌>>=◌}

-- what holds of an answer, if it is good
abbrev pub Ok : {A : Type 0} → (A → Type 0) → Answer A → Type 0
Ok P (good a) = P a
Ok P (stop c) = Unit {0}

pub is_ok : {A : Type 0} (P : A → Type 0) (m : Answer A) (a : A) → m ≡ good a → Ok P m → P a
is_ok P (good b) a e h = let p : b ≡ a = cc in rw p at h
is_ok P (stop c) a e h = clash (cc)

-- of an answer that goes on from another: whatever the first came to, and with what holds of it
pub bind_ok : {A B : Type 0} (P : B → Type 0) (m : Answer A) (f : A → Answer B) → ((a : A) → m ≡ good a → Ok P (f a)) → Ok P (m >>= f)
bind_ok P (good a) f h = h a refl
bind_ok P (stop c) f h = tt

pub ok-then : {A B : Type 0} (P : A → Type 0) (Q : B → Type 0) (m : Answer A) (f : A → Answer B) → Ok P m → ((a : A) → P a → Ok Q (f a)) → Ok Q (m >>= f)
ok-then P Q m f h k = bind_ok Q m f (λ a e. k a (is_ok P m a e h))
