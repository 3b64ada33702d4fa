-- Laws of a list that is put into an array: its length, what stands before it, past the end, two lists put as one, and what is left to put. Assumes nothing.
use Rattle.std.specs.Prelude.{◌≡◌, refl, List, [], ◌∷◌, ◌++◌, ℕ, ◌+◌, min, ◌≤◌, ◌<◌, leb, length, get_or, set, drop}
use Rattle.std.proofs.Common.{sym, ap, ◌∙◌, arith, add-one, length-set, length-append, drop_of_length-le, get_or-set_other, drop-cons, leb-true, leb-false}
use Rattle.std.proofs.Math.Seq.{set_out}
use Rattle.values.specs.Choice.{decide}
use Rattle.values.specs.PutAt.{put_at, IsPut}

pub put-length : (l s : List ℕ) (p : ℕ) → length (put_at s p l) ≡ length s
put-length [] s p = refl
put-length (t ∷ l) s p = put-length l (set s p t) (p + 1) ∙ length-set s p t

-- before what is put nothing changes
pub put-before : (l s : List ℕ) (p j : ℕ) → j < p → get_or (put_at s p l) j 0 ≡ get_or s j 0
put-before [] s p j h = refl
put-before (t ∷ l) s p j h = put-before l (set s p t) (p + 1) j (omega arith) ∙ get_or-set_other s p j t 0 (λ e. omega arith)

-- two lists one behind the other are put as one
pub put-join : (l m s : List ℕ) (p q : ℕ) → p + length l ≡ q → put_at s p (l ++ m) ≡ put_at (put_at s p l) q m
put-join [] m s p q e = let f : p ≡ q = omega arith in rw f
put-join (t ∷ l) m s p q e = put-join l m (set s p t) (p + 1) q (omega arith)

-- ---- past the end nothing is put

pub put-past : (l s : List ℕ) (p : ℕ) → length s ≤ p → put_at s p l ≡ s
put-past [] s p h = refl
put-past (b ∷ l) s p h = rw (set_out s p b h) (put-past l s (p + 1) (omega arith))

-- so a place past the end is as good as the end
pub put-within : (l s : List ℕ) (p : ℕ) → put_at s (min (length s) p) l ≡ put_at s p l
put-within l s p =
    decide (put_at s (min (length s) p) l ≡ put_at s p l) (leb (length s) p)
    (λ e. let h = leb-true (length s) p e in put-past l s (min (length s) p) (omega arith) ∙ sym (put-past l s p h))
    (λ e. let h = leb-false (length s) p e in let q : min (length s) p ≡ p = omega arith in rw q)

-- ---- bytes, one by one

-- the byte at place i of a text that is put from there on
module _ (t s : List ℕ) (p i : ℕ) where
  pub put_next : i < length t → put_at s p (drop i t) ≡ put_at (set s p (get_or t i 0)) (p + 1) (drop (i + 1) t)
  put_next h = rw (drop-cons t i 0 h, add-one i)

  pub put-none : length t ≤ i → put_at s p (drop i t) ≡ s
  put-none h = rw (drop_of_length-le t h)

-- ---- texts, with the place behind them

pub put-nothing : {s : List ℕ} {p : ℕ} → IsPut s p [] s p
put-nothing {p = p} = record { put = refl; behind = omega arith }

-- a byte alone
pub put_byte : {s t : List ℕ} {p b : ℕ} → t ≡ set s p b → IsPut s p (b ∷ []) t (p + 1)
put_byte e = record { put = e; behind = refl }

-- a text of which the size is known
pub put-sized : {s t : List ℕ} (a : List ℕ) {p n : ℕ} → t ≡ put_at s p a → n ≡ length a → IsPut s p a t (p + n)
put-sized a e f = record { put = e; behind = omega arith }

-- one text behind another
pub put_both : {s t u a b : List ℕ} {p q r : ℕ} → IsPut s p a t q → IsPut t q b u r → IsPut s p (a ++ b) u r
put_both {s} {t} {u} {a} {b} {p} {q} {r} h g =
    record {
      put = g.put ∙ ap (λ (x : List ℕ). put_at x q b) h.put ∙ sym (put-join a b s p q (sym h.behind));
      behind = let e = h.behind in let f = g.behind in rw length-append (omega arith);
    }

-- a text by another name
pub put_as : {s a b t : List ℕ} {p q : ℕ} → b ≡ a → IsPut s p a t q → IsPut s p b t q
put_as e h = rw e h

-- ---- what is left to put

-- l from place `at` on comes to `rest` from place p on
pub record Left (s : List ℕ) (at : ℕ) (l out : List ℕ) (p : ℕ) (rest : List ℕ) : Type 0 where
  pub put : put_at out p rest ≡ put_at s at l
  pub behind : p + length rest ≡ at + length l

module _ {s : List ℕ} {at : ℕ} {l : List ℕ} where
  pub left-all : {rest : List ℕ} → rest ≡ l → Left s at l s at rest
  left-all e = rw e (record { put = refl; behind = refl })

  -- behind a text that is put
  pub left_after : {out t : List ℕ} {p q : ℕ} {rest a : List ℕ} (b : List ℕ) → Left s at l out p rest → rest ≡ a ++ b → IsPut out p a t q → Left s at l t q b
  left_after {out} {t} {p} {q} {rest} {a} b h e g =
      record {
        put = ap (λ (x : List ℕ). put_at x q b) g.put ∙ sym (put-join a b out p q (sym g.behind)) ∙ ap (put_at out p) (sym e) ∙ h.put;
        behind = let f = g.behind in let k = h.behind in let m = ap length e ∙ length-append a b in omega arith;
      }

  pub left-none : {out : List ℕ} {p : ℕ} {rest : List ℕ} → Left s at l out p rest → rest ≡ [] → IsPut s at l out p
  left-none {out} {p} {rest} h e =
      record { put = sym (ap (put_at out p) e) ∙ h.put; behind = let k = h.behind in let m = ap length e in omega arith }
