-- Laws of tokens that stand in a list: in two lists that are the same there, and up to a line's end, where the brackets are counted and the line is known. Nothing is assumed.
use Rattle.std.specs.Prelude.{◌≡◌, refl, Bool, false, List, [], ◌∷◌, ◌++◌, ℕ, ◌+◌, ◌-◌, ◌≤◌, ◌<◌, eqb, leb, length, get_or, drop}
use Rattle.std.proofs.Common.{sym, ap, ◌∙◌, add-one, arith, drop_of_length-le, drop-cons}
use Rattle.std.proofs.Math.Decide.{dec_lt}
use Rattle.std.proofs.Math.ListN.{get_or-eq_default}
use Rattle.values.specs.Choice.{either_both}
use Rattle.tokens.specs.Token.{END, OPEN, CLOSE, AllReal}
use Rattle.tokens.specs.SingleFault.{brackets_open, opens_too_many}
use Rattle.grammar.specs.Tree.{Line, line_tokens, WrittenAs}
use Rattle.grammar.specs.Meaning.{Stands}
use Rattle.grammar.specs.AgreementLaws.{stands-place}
use Rattle.grammar.specs.ClosedTokens.{front, front-end, front-closed, same_row}

-- ---- where tokens stand

-- what stands in one list stands in another that is the same there
pub stands_same : (s z l : List ℕ) (p q : ℕ) → ((j : ℕ) → p ≤ j → j < q → get_or z j 0 ≡ get_or s j 0) → Stands s p l q → Stands z p l q
stands_same s z [] p q h g = g
stands_same s z (t ∷ l) p q h g =
    let e = stands-place s (t ∷ l) p q g in
    (h p (omega arith) (omega arith) ∙ g.0, stands_same s z l (p + 1) q (λ j a b. h j (omega arith) b) g.1)

-- ---- up to the end of a line

-- what looks at a list up to its first 0 may look at a 0 past its end
first-token : {X : Type 0} (f : List ℕ → X) (x : X) → f [] ≡ x → ((l : List ℕ) → f (END ∷ l) ≡ x) → (s : List ℕ) (p : ℕ) → f (drop p s) ≡ f (get_or s p 0 ∷ drop (p + 1) s)
first-token f x e h s p = by_place (dec_lt p (length s))
  where
    by_place : Dec (p < length s) → f (drop p s) ≡ f (get_or s p 0 ∷ drop (p + 1) s)
    by_place (yes l) = rw (add-one p) (ap f (drop-cons s p 0 l))
    by_place (no l) = rw (drop_of_length-le s {i = p} (omega (arith, l)), get_or-eq_default s 0 {n = p} (omega (arith, l))) (e ∙ sym (h (drop (p + 1) s)))

-- the brackets
opens-on : (t : ℕ) (l m : List ℕ) (n : ℕ) → ((k : ℕ) → opens_too_many l k ≡ opens_too_many m k) → opens_too_many (t ∷ l) n ≡ opens_too_many (t ∷ m) n
unfolding opens_too_many
opens-on t l m n h =
    either_both (λ (x y : Bool). x ≡ y) (eqb t END) (λ _. refl) λ _.
    either_both (λ (x y : Bool). x ≡ y) (eqb t OPEN)
    (λ _. either_both (λ (x y : Bool). x ≡ y) (leb brackets_open n) (λ _. refl) (λ _. h (n + 1)))
    (λ _. either_both (λ (x y : Bool). x ≡ y) (eqb t CLOSE) (λ _. h (n - 1)) (λ _. h n))

pub opens-stands : (s l : List ℕ) (p q n : ℕ) → Stands s p (l ++ (END ∷ [])) q → opens_too_many (drop p s) n ≡ opens_too_many l n
unfolding opens_too_many
opens-stands s [] p q n h = first-token (λ m. opens_too_many m n) false refl (λ m. refl) s p ∙ rw h.0
opens-stands s (t ∷ l) p q n h =
    first-token (λ m. opens_too_many m n) false refl (λ m. refl) s p
    ∙ rw h.0 (opens-on t (drop (p + 1) s) l n (λ k. opens-stands s l (p + 1) q k h.1))

-- ---- lines

-- where a line stands beside real tokens and their end, they are its tokens
pub same-tokens : (s ts : List ℕ) (p q r : ℕ) (l : Line) → AllReal ts → Stands s p (ts ++ (END ∷ [])) q → Stands s p (line_tokens l) r → front l ≡ ts
same-tokens s ts p q r l a h g = same_row s (front l) ts p r q (front-closed l) a (rw (front-end l) at g) h

-- so a line stands there exactly if it is written as them
pub line-stood : (s ts : List ℕ) (p q r : ℕ) (l : Line) → AllReal ts → Stands s p (ts ++ (END ∷ [])) q → Stands s p (line_tokens l) r → WrittenAs l ts
line-stood s ts p q r l a h g = front-end l ∙ ap (λ (m : List ℕ). m ++ (END ∷ [])) (same-tokens s ts p q r l a h g)

pub line-standing : (s ts : List ℕ) (p q : ℕ) (l : Line) → Stands s p (ts ++ (END ∷ [])) q → WrittenAs l ts → Stands s p (line_tokens l) q
line-standing s ts p q l h w = rw w h
