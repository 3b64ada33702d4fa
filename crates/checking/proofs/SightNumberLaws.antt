-- Laws on what the check sees as one number: what it says by the test of the code, and what was made into a number is seen again; its end and depth; what has no fault; faults alone.
use mathlib.Core.Path.{◌≡◌, refl, sym, ap, ◌∙◌}
use mathlib.Core.Bool.{Bool, true, false, cond}
use Prim.Native.Nat.{ℕ, ◌+◌, ◌/◌, ◌%◌, ◌<◌, ◌≤◌, ◌*◌}
use native.Mathlib.Omega.{arith}
use lib.Dec.{eqb}
use borrow.Author.Tests.{eqb-true, eq-eqb, ne_eqb}
use Rattle.values.specs.Codes.{not_in_grammar}
use Rattle.tokens.specs.Token.{room, set_size}
use Rattle.tokens.specs.Descent.{Read, read, ends, then}
use Rattle.tokens.specs.SingleFault.{lower, wanting_fault}
use Rattle.tokens.specs.ReadStepLaws as answers
use Rattle.tokens.specs.RowLaws.{Says}
use Rattle.checking.specs.Fault.{Sight, fault_for, lowest}
use Rattle.checking.specs.SightNumber.{number_seen, truth_seen, next_of, truth_of, fault_of, depth_of, deeper_of, is_faultless, sight_of, seen, faulted, signed_sight}
use Rattle.checking.specs.Brackets.{SameEnd, Joined}

-- the number w, whose next place is i
module _ (w : ℕ) {i : ℕ} (e : i ≡ next_of w) where
  pub in-room : i < room
  in-room = omega arith

  pub seen-stop : i ≡ 0 → seen w ≡ ends not_in_grammar
  unfolding seen
  seen-stop h = simp (seen, eq-eqb (next_of w) 0 (sym e ∙ h))

  pub seen_read : (i ≡ 0 → ⊥) → seen w ≡ read (sight_of w) i
  unfolding seen
  seen_read h = rw e (simp (seen, ne_eqb (next_of w) 0 (λ z. h (e ∙ z))))

  -- what ends the reading passes through a step
  pub passes : (f : Sight → ℕ → Read Sight) → i ≡ 0 → seen w ≡ then (seen w) f
  passes f h = answers.passes f (seen-stop h)

  -- what is seen goes into a step
  pub enters : (f : Sight → ℕ → Read Sight) {x : Read Sight} → (i ≡ 0 → ⊥) → x ≡ f (sight_of w) i → x ≡ then (seen w) f
  enters f h k = answers.enters f (seen_read h) k

pub sights-say : Says seen (λ (w : ℕ). sight_of w) (λ (w : ℕ). not_in_grammar)
sights-say = record { stops = λ w e h. seen-stop w e h; reads = λ w e h. seen_read w e h }

-- not in the grammar
pub seen_nothing : seen 0 ≡ ends not_in_grammar
unfolding seen
seen_nothing = refl

seen_as : (w p f : ℕ) {t : Bool} → p ≡ next_of w → 0 < p → truth_of w ≡ t → fault_of w ≡ f → seen w ≡ read (record { truth = t; fault = f }) p
seen_as w p f e l g h = rw (sym g, sym h) (seen_read w e (λ z. omega arith))

-- x is made of the fault f, the depth d and the place p
pub record Made (f d p x : ℕ) : Type 0 where
  pub next : next_of x ≡ p
  pub fault : fault_of x ≡ f
  pub depth : depth_of x ≡ d

module _ {f d : ℕ} (p : ℕ) {x : ℕ} (b : f < 256) (c : d < 256) (m : p < room) where
  pub number-made : x ≡ number_seen f d p → Made f d p x
  number-made e = record { next = omega arith; fault = omega arith; depth = omega arith }

  pub truth-made : x ≡ truth_seen f d p → Made f d p x
  truth-made e = record { next = omega arith; fault = omega arith; depth = omega arith }

  -- f is g
  module _ {g : ℕ} (l : 0 < p) where
    pub seen-number : x ≡ number_seen f d p → f ≡ g → seen x ≡ read (record { truth = false; fault = g }) p
    seen-number e h = let k = number-made e in seen_as x p g (sym k.next) l (ne_eqb (x / room % 2) 1 (λ z. omega arith)) (k.fault ∙ h)

    pub seen-truth : x ≡ truth_seen f d p → f ≡ g → seen x ≡ read (record { truth = true; fault = g }) p
    seen-truth e h = let k = truth-made e in seen_as x p g (sym k.next) l (eq-eqb (x / room % 2) 1 (omega arith)) (k.fault ∙ h)

-- w was seen up to i; x is made of the fault f, which is g, the depth d and i, as a yes/no (true) or a number (false)
pub made_again : (w : ℕ) {i f d g x : ℕ} {o : Bool} → i ≡ next_of w → (i ≡ 0 → ⊥) → (t : Bool) → o ≡ t → f < 256 → d < 256 → x ≡ cond t (truth_seen f d i) (number_seen f d i) → f ≡ g → (seen x ≡ read (record { truth = o; fault = g }) i) × Made f d i x
made_again w {i} e h true k b c j q = rw k (seen-truth i b c (in-room w e) (omega (arith, h)) j q, truth-made i b c (in-room w e) j)
made_again w {i} e h false k b c j q = rw k (seen-number i b c (in-room w e) (omega (arith, h)) j q, number-made i b c (in-room w e) j)

-- one more is the next place; and one bracket more goes deeper
module _ (w : ℕ) {i : ℕ} (e : i ≡ next_of w) (l : i < set_size) where
  pub seen_next : seen (w + 1) ≡ read (sight_of w) (i + 1)
  seen_next =
      let b : (w + 1) / room ≡ w / room = omega arith in
      let c : (w + 1) / (2 * room) ≡ w / (2 * room) = omega arith in
      seen_as (w + 1) (i + 1) (fault_of w) (omega arith) (omega arith) (ap (λ (n : ℕ). eqb (n % 2) 1) b) (ap (λ (n : ℕ). n % 256) c)

  pub next-made : Made (fault_of w) (depth_of w) (i + 1) (w + 1)
  next-made = record { next = omega arith; fault = omega arith; depth = omega arith }

  pub seen-deeper : seen (w + 512 * room + 1) ≡ read (sight_of w) (i + 1)
  seen-deeper =
      let b : (w + 512 * room + 1) / room % 2 ≡ w / room % 2 = omega arith in
      seen_as (w + 512 * room + 1) (i + 1) (fault_of w) (omega arith) (omega arith) (ap (λ (n : ℕ). eqb n 1) b) (omega arith)

  pub deeper-made : depth_of w ≤ 8 → Made (fault_of w) (depth_of w + 1) (i + 1) (w + 512 * room + 1)
  deeper-made h = record { next = omega arith; fault = omega arith; depth = omega arith }

-- ---- what the numbers say of the brackets

pub same_end : (w : ℕ) → SameEnd w w
same_end w = record { next = refl; depth = refl }

pub same-end-made : (w : ℕ) {f d p x : ℕ} → Made f d p x → p ≡ next_of w → d ≡ depth_of w → SameEnd w x
same-end-made w k e h = record { next = k.next ∙ e; depth = k.depth ∙ h }

pub joined-nothing : (a b : ℕ) → next_of b ≡ 0 → Joined a b b
joined-nothing a b e = record { next = refl; first = λ g. absurd (g e); second = λ g. absurd (g e) }

pub joined_made : (a b : ℕ) {f d p x : ℕ} → Made f d p x → p ≡ next_of b → d ≡ deeper_of a b → Joined a b x
joined_made a b k e h = record { next = k.next ∙ e; first = λ g. omega (arith, k.depth); second = λ g. omega (arith, k.depth) }

-- ---- what was wanted, and no fault

pub record Faultless (t : Bool) (w : ℕ) : Type 0 where
  pub truth : truth_of w ≡ t
  pub fault : fault_of w ≡ 0

module _ (t : Bool) (w : ℕ) {o : Bool} (e : o ≡ is_faultless t w) (h : o ≡ true) where
  pub faultless-seen : Faultless t w
  faultless-seen = go t (eqb-true (w / room % 512) (cond t 1 0) (sym e ∙ h))
    where
      go : (t : Bool) → w / room % 512 ≡ cond t 1 0 → Faultless t w
      go true f = record { truth = eq-eqb (w / room % 2) 1 (omega arith); fault = omega arith }
      go false f = record { truth = ne_eqb (w / room % 2) 1 (λ z. omega arith); fault = omega arith }

none-wanting : (t : Bool) → wanting_fault t t ≡ 0
unfolding wanting_fault
none-wanting true = refl
none-wanting false = refl

pub lowest-none : (t : Bool) (a b : ℕ) → Faultless t a → Faultless t b → 0 ≡ lowest t (sight_of a) (sight_of b)
unfolding lower
lowest-none t a b f g = sym (simp (f.truth, f.fault, g.truth, g.fault, none-wanting t))

pub faultless-same : (t : Bool) (a : ℕ) → Faultless t a → seen a ≡ then (seen a) (signed_sight t)
unfolding seen lower
faultless-same t a f = go (eqb (next_of a) 0) refl
  where
    go : (b : Bool) → eqb (next_of a) 0 ≡ b → seen a ≡ then (seen a) (signed_sight t)
    go true h = simp (seen, h)
    go false h = simp (seen, h, f.truth, f.fault, none-wanting t)

-- ---- faults alone

module _ (w : ℕ) {i : ℕ} (e : i ≡ next_of w) where
  pub faulted-stop : i ≡ 0 → faulted w ≡ ends not_in_grammar
  unfolding faulted
  faulted-stop h = simp (faulted, eq-eqb (next_of w) 0 (sym e ∙ h))

  pub faulted-read : (i ≡ 0 → ⊥) → faulted w ≡ read (fault_of w) i
  unfolding faulted
  faulted-read h = rw e (simp (faulted, ne_eqb (next_of w) 0 (λ z. h (e ∙ z))))

pub faulted-nothing : faulted 0 ≡ ends not_in_grammar
unfolding faulted
faulted-nothing = refl

pub faulted-made : {f d p x : ℕ} → Made f d p x → 0 < p → faulted x ≡ read f p
faulted-made {p = p} {x = x} k l = faulted-read x (sym k.next) (λ z. omega arith) ∙ ap (λ (g : ℕ). read g p) k.fault

faults : Read Sight → Read ℕ
faults (read a q) = read a.fault q
faults (ends k) = ends k

faulted-faults : (w : ℕ) → faulted w ≡ faults (seen w)
unfolding faulted seen faults
faulted-faults w = go (eqb (next_of w) 0) refl
  where
    go : (b : Bool) → eqb (next_of w) 0 ≡ b → faulted w ≡ faults (seen w)
    go true h = simp (faulted, seen, faults, h)
    go false h = simp (faulted, seen, faults, h)

faults-wanted : (t : Bool) (x : Read Sight) → faults (then x (signed_sight t)) ≡ fault_for t x
unfolding faults
faults-wanted t (read a q) = refl
faults-wanted t (ends k) = refl

-- x is what a says where a yes/no or a number is wanted, and a says y
pub faulted-wanted : (t : Bool) (a x : ℕ) (y : Read Sight) → seen a ≡ y → seen x ≡ then (seen a) (signed_sight t) → faulted x ≡ fault_for t y
faulted-wanted t a x y e f = faulted-faults x ∙ ap faults (f ∙ ap (λ (r : Read Sight). then r (signed_sight t)) e) ∙ faults-wanted t y

-- ---- actions and whether one of them names a line

faulted-same : (w x : ℕ) → next_of x ≡ next_of w → fault_of x ≡ fault_of w → faulted x ≡ faulted w
unfolding faulted
faulted-same w x e f =
    ap (λ (i : ℕ). elim (eqb i 0) as (λ _. Read ℕ) [ true ↦ ends not_in_grammar | false ↦ read (fault_of x) i ]) e ∙ ap (λ (g : ℕ). elim (eqb (next_of w) 0) as (λ _. Read ℕ) [ true ↦ ends not_in_grammar | false ↦ read g (next_of w) ]) f

-- x is made of the fault, the depth and the place of w, as a yes/no (true) or a number (false)
pub made-noted : (w : ℕ) {f d i x : ℕ} {o : Bool} → f ≡ fault_of w → d ≡ depth_of w → i ≡ next_of w → (t : Bool) → o ≡ t → x ≡ cond t (truth_seen f d i) (number_seen f d i) → (faulted x ≡ faulted w) × (SameEnd w x × (truth_of x ≡ o))
made-noted w {i = i} {x = x} e g h true k j =
    let m = truth-made i (omega arith) (omega arith) (in-room w h) j in
    (faulted-same w x (m.next ∙ h) (m.fault ∙ e), (same-end-made w m h g, eq-eqb (x / room % 2) 1 (omega arith) ∙ sym k))
made-noted w {i = i} {x = x} e g h false k j =
    let m = number-made i (omega arith) (omega arith) (in-room w h) j in
    (faulted-same w x (m.next ∙ h) (m.fault ∙ e), (same-end-made w m h g, ne_eqb (x / room % 2) 1 (λ z. omega arith) ∙ sym k))
