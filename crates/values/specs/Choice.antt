-- How a proof goes by cases over a computed test: it learns what the test gave. Laws; nothing is assumed.
use Rattle.std.specs.Prelude.{◌≡◌, refl, Bool, true, false, cond, ◌&&◌, T}
use Rattle.std.proofs.Common.{sym, ◌∙◌}
use Rattle.std.proofs.lemmas.Bool.{false≢true}

-- a test as a type and as an equation
pub holds : (b : Bool) → T b → b ≡ true
holds true h = refl
holds false h = absurd h

pub told-so : (b : Bool) → b ≡ true → T b
told-so true h = tt
told-so false h = absurd (false≢true h)

-- no test gives both
pub contrary : {A : Type 0} {b : Bool} → b ≡ true → b ≡ false → A
contrary t f = absurd (false≢true (sym f ∙ t))

-- a test of two parts
pub both : (a b : Bool) → (a && b) ≡ true → (a ≡ true) × (b ≡ true)
both true b h = (refl, h)
both false b h = absurd (false≢true h)

-- by whether a test holds
pub decide : (P : Type 0) (b : Bool) → (b ≡ true → P) → (b ≡ false → P) → P
decide P true f g = f refl
decide P false f g = g refl

-- which way a choice went
pub choice : {X : Type 0} (P : Type 0) (b : Bool) (x y z : X) → elim b as (λ _. X) [ true ↦ x | false ↦ y ] ≡ z → (b ≡ true → x ≡ z → P) → (b ≡ false → y ≡ z → P) → P
choice P true x y z h f g = f refl h
choice P false x y z h f g = g refl h

-- where the test is known: the one side, and the other
pub chosen : {X : Type 0} (b : Bool) (x y : X) → b ≡ true → elim b as (λ _. X) [ true ↦ x | false ↦ y ] ≡ x
chosen b x y h = rw h

pub refused : {X : Type 0} (b : Bool) (x y : X) → b ≡ false → elim b as (λ _. X) [ true ↦ x | false ↦ y ] ≡ y
refused b x y h = rw h

-- two choices by one test agree where it fails, and where it holds if their sides there do
pub same-choice : {X : Type 0} (b : Bool) (x y z : X) → (b ≡ true → x ≡ z) → ◌≡◌ {A = X} (elim b as (λ _. X) [ true ↦ x | false ↦ y ]) (elim b as (λ _. X) [ true ↦ z | false ↦ y ])
same-choice true x y z h = h refl
same-choice false x y z h = refl

-- what holds in both cases of a test holds of the test
pub either : {X : Type 0} (P : X → Type 0) (b : Bool) {x y : X} → (b ≡ true → P x) → (b ≡ false → P y) → P (elim b [ true ↦ x | false ↦ y ])
either P true f g = f refl
either P false f g = g refl

-- the same, the other case first
pub if_not : {X : Type 0} (P : X → Type 0) (b : Bool) {x y : X} → (b ≡ false → P y) → (b ≡ true → P x) → P (elim b [ true ↦ x | false ↦ y ])
if_not P true f g = g refl
if_not P false f g = f refl

-- the same of two things that go by one test
pub either_both : {X Y : Type 0} (P : X → Y → Type 0) (b : Bool) {x y : X} {u v : Y} → (b ≡ true → P x u) → (b ≡ false → P y v) →
    P (elim b [ true ↦ x | false ↦ y ]) (elim b [ true ↦ u | false ↦ v ])
either_both P true f g = f refl
either_both P false f g = g refl

-- the same of two values that a test chooses from
pub either-cond : {X : Type 0} (P : X → Type 0) (b : Bool) (x y : X) → P x → P y → P (cond b x y)
either-cond P true x y p q = p
either-cond P false x y p q = q

-- both hold, so the joint test does
pub and-true : {a b : Bool} → a ≡ true → b ≡ true → (a && b) ≡ true
and-true {a} {b} p q = rw (p, q)
