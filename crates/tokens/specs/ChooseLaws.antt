-- Laws of answers, one behind another and by a test: what is made of an answer goes through to what it is made from. Nothing is assumed.
use Rattle.std.specs.Prelude.{◌≡◌, refl, Bool, true, false}
use Rattle.tokens.specs.Descent.{Answer, good, stop, ◌>>=◌}

-- one answer and then another: what is made of the first goes through to the last
pub through : {A B C : Type 0} (g : A → Answer B) (m : Answer C) (f : C → Answer B) (e : C → Answer A) → ((c : C) → f c ≡ (e c >>= g)) → (m >>= f) ≡ (m >>= e >>= g)
through g (good c) f e h = h c
through g (stop k) f e h = refl

-- two answers by one test
pub choose : {A B : Type 0} (g : A → Answer B) (b : Bool) (x y : Answer B) (u v : Answer A) → x ≡ (u >>= g) → y ≡ (v >>= g) →
    let p : Answer B = elim b [ true ↦ x | false ↦ y ] in let q : Answer A = elim b [ true ↦ u | false ↦ v ] in p ≡ (q >>= g)
choose g true x y u v p q = p
choose g false x y u v p q = q

-- the same by two tests that agree, each side with what the test gave
pub choose-by : {A B : Type 0} (g : A → Answer B) (b c : Bool) (x y : Answer B) (u v : Answer A) → b ≡ c → (c ≡ true → x ≡ (u >>= g)) → (c ≡ false → y ≡ (v >>= g)) →
    let p : Answer B = elim b [ true ↦ x | false ↦ y ] in let q : Answer A = elim c [ true ↦ u | false ↦ v ] in p ≡ (q >>= g)
choose-by g true true x y u v e p q = p refl
choose-by g true false x y u v e p q = cc
choose-by g false true x y u v e p q = cc
choose-by g false false x y u v e p q = q refl
