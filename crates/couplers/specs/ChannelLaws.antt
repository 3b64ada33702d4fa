-- Laws of channels: what a good reading and a fault make of one, on both sides of 25 faulty beats; sound ones stay sound; the values are values. Nothing is assumed.
use Rattle.std.specs.Prelude.{◌≡◌, Bool, ◌&&◌, List, [], ◌∷◌, leb, ℤ, pos, get_or, set, take, Float, Option, Some, None, is_some}
use Rattle.std.proofs.Math.Path.{refl}
use Rattle.std.proofs.Common.{sym, ap, ◌∙◌, arith, take_all}
use Rattle.std.specs.List.{list_all}
use Rattle.std.proofs.lemmas.List.Folds.{list_all_more}
use Rattle.std.proofs.Math.Bool.{true, false}
use Prim.Native.Nat.{ℕ, zero, suc, ◌+◌, ◌<◌, ◌≤◌}
use Rattle.std.proofs.Math.Numerals.{add-one}
use Rattle.std.proofs.Math.Dec.{eqb}
use borrow.Author.Tests.{eqb-true, eqb-false, leb-false, lt-leb, le-leb}
use Rattle.std.proofs.Math.ListN.{length, replicate, length-set}
use Rattle.values.specs.Choice.{both}
use Rattle.values.specs.FifoLaws.{zero-in-range}
use Rattle.values.specs.Value.{in_range}
use Rattle.couplers.specs.declared.reading.Reading.{Reading}
use Rattle.couplers.specs.declared.reading.Reading.TheVariants.{Volts, Break, Short}
use Rattle.couplers.specs.declared.channel.Channel.{Channel}
use Rattle.couplers.specs.declared.channel.Sampled.{Sampled}
use Rattle.couplers.specs.declared.channel.Samples.{Samples}
use Rattle.couplers.specs.Conversion.{thousandths_of, value_of}
use Rattle.couplers.specs.ConversionLaws.{value-in-range}
use Rattle.couplers.specs.Channel.{channel_count, max_faults, sampled_fault, sampled_as, sampled, fresh_channels, is_channel, are_channels, no_channel, no_reading, value_sampled, channel_sampled, sampled_at, given_at, kept_at, all_good, values_sampled, channels_sampled, sampled_all, values_given, channels_kept}

-- ---- a good reading, and a fault

-- what is kept is the number that came, and the row of faults is over
pub as-received : (c : Channel) (x : Float) (v : ℤ) → thousandths_of x ≡ Some v → sampled c (Volts x) ≡ Some (record { value = v; channel = record { known = true; last = x; faults = 0 } })
as-received c x v e = ap (sampled_as c x) e

-- whether a reading is a fault
abbrev pub is_fault : Reading → Type 0
is_fault (Volts x) = thousandths_of x ≡ None
is_fault Break = Unit {0}
is_fault Short = Unit {0}

faulty : (c : Channel) (r : Reading) → is_fault r → sampled c r ≡ sampled_fault c
faulty c (Volts x) h = ap (sampled_as c x) h
faulty c Break h = refl
faulty c Short h = refl

-- what a fault gives, by its two tests
by_tests : Channel → Bool → Bool → Option Sampled
by_tests c k b = elim k [ true ↦ elim b [ true ↦ None | false ↦ Some (record { value = value_of (thousandths_of c.last); channel = record { known = true; last = c.last; faults = c.faults + 1 } }) ] | false ↦ None ]

fault-by-tests : (c : Channel) → sampled_fault c ≡ by_tests c c.known (leb max_faults c.faults)
unfolding sampled_fault by_tests
fault-by-tests c = refl

-- up to the 25th faulty beat in a row the last good value serves
pub fault-within-25 : (c : Channel) (r : Reading) → is_fault r → c.known ≡ true → c.faults < max_faults →
    sampled c r ≡ Some (record { value = value_of (thousandths_of c.last); channel = record { known = true; last = c.last; faults = c.faults + 1 } })
unfolding by_tests
fault-within-25 c r h k l = faulty c r h ∙ fault-by-tests c ∙ ap (λ (b : Bool). by_tests c b (leb max_faults c.faults)) k ∙ ap (by_tests c true) (lt-leb max_faults c.faults l)

-- the 26th is refused
pub fault-beyond-25 : (c : Channel) (r : Reading) → is_fault r → max_faults ≤ c.faults → sampled c r ≡ None
unfolding by_tests
fault-beyond-25 c r h l = faulty c r h ∙ fault-by-tests c ∙ ap (by_tests c c.known) (le-leb max_faults c.faults l) ∙ go c.known
  where
    go : (k : Bool) → by_tests c k true ≡ None
    go true = refl
    go false = refl

-- a fault of a channel that was never good is refused
pub fault-never-good : (c : Channel) (r : Reading) → is_fault r → c.known ≡ false → sampled c r ≡ None
unfolding by_tests
fault-never-good c r h k = faulty c r h ∙ fault-by-tests c ∙ ap (λ (b : Bool). by_tests c b (leb max_faults c.faults)) k

-- ---- a channel that is sound stays sound

fault-sound : (c : Channel) → is_channel c ≡ true → is_channel (channel_sampled c (sampled_fault c)) ≡ true
unfolding is_channel by_tests
fault-sound c h = ap (λ (x : Option Sampled). is_channel (channel_sampled c x)) (fault-by-tests c) ∙ go c.known (leb max_faults c.faults) refl refl
  where
    go : (k b : Bool) → c.known ≡ k → leb max_faults c.faults ≡ b → is_channel (channel_sampled c (by_tests c k b)) ≡ true
    go true true e f = h
    go true false e f =
        let g : is_some (thousandths_of c.last) && leb c.faults max_faults ≡ true = rw e at h in
        rw ((both (is_some (thousandths_of c.last)) (leb c.faults max_faults) g).0, le-leb (c.faults + 1) max_faults (omega (arith, leb-false max_faults c.faults f)))
    go false b e f = h

pub sampled-sound : (c : Channel) (r : Reading) → is_channel c ≡ true → is_channel (channel_sampled c (sampled c r)) ≡ true
unfolding is_channel
sampled-sound c (Volts x) h = go (thousandths_of x) refl
  where
    go : (y : Option ℤ) → thousandths_of x ≡ y → is_channel (channel_sampled c (sampled_as c x y)) ≡ true
    go (Some v) e = rw e
    go None e = fault-sound c h
sampled-sound c Break h = fault-sound c h
sampled-sound c Short h = fault-sound c h

-- ---- the turns of a loop over all channels

module _ (cs : List Channel) (rs : List Reading) where
  pub good-step : (i : ℕ) → all_good cs rs i ≡ true → is_some (sampled_at cs rs i) ≡ true → all_good cs rs (i + 1) ≡ true
  unfolding all_good
  good-step i a b = rw (add-one i, a, b)

  pub good-stops : (i n : ℕ) → i < n → all_good cs rs i ≡ true → is_some (sampled_at cs rs i) ≡ false → all_good cs rs n ≡ false
  unfolding all_good
  good-stops i zero h a b = absurd (omega arith)
  good-stops i (suc n) h a b = go (eqb i n) refl (λ l. good-stops i n l a b)
    where
      go : (e : Bool) → eqb i n ≡ e → (i < n → all_good cs rs n ≡ false) → all_good cs rs n && is_some (sampled_at cs rs n) ≡ false
      go true e f = let p : i ≡ n = eqb-true i n e in rw (← p, a, b)
      go false e f = let p : i ≡ n → ⊥ = eqb-false i n e in rw (f (omega arith))

  pub kept_step : (l : List Channel) (i : ℕ) (v : Channel) → v ≡ kept_at cs rs i → l ≡ channels_sampled cs rs i → set l i v ≡ channels_sampled cs rs (i + 1)
  unfolding channels_sampled
  kept_step l i v e q = rw (e, q, add-one i)

  pub values-step : (l : List ℤ) (i : ℕ) (v : ℤ) → v ≡ given_at cs rs i → l ≡ values_sampled cs rs i → set l i v ≡ values_sampled cs rs (i + 1)
  unfolding values_sampled
  values-step l i v e q = rw (e, q, add-one i)

  pub length-values : (n : ℕ) → length (values_sampled cs rs n) ≡ channel_count
  unfolding values_sampled
  length-values zero = refl
  length-values (suc n) = length-set (values_sampled cs rs n) n _ ∙ length-values n

  pub length-channels : (n : ℕ) → length (channels_sampled cs rs n) ≡ length cs
  unfolding channels_sampled
  length-channels zero = refl
  length-channels (suc n) = length-set (channels_sampled cs rs n) n _ ∙ length-channels n

-- the first i are sound by number as they are one by one
pub sound-first : (cs : List Channel) (i : ℕ) → i ≤ length cs → are_channels cs i ≡ list_all is_channel (take i cs)
unfolding are_channels
sound-first cs zero h = refl
sound-first cs (suc i) h =
    ap (λ (b : Bool). b && is_channel (get_or cs i no_channel)) (sound-first cs i (omega arith)) ∙
    sym (list_all_more is_channel cs i no_channel (omega arith)) ∙
    ap (λ (n : ℕ). list_all is_channel (take n cs)) (add-one i)

pub sound_all : (cs : List Channel) → length cs ≡ channel_count → are_channels cs channel_count ≡ list_all is_channel cs
sound_all cs h =
    sound-first cs channel_count (omega (arith, h)) ∙
    ap (list_all is_channel) (take_all channel_count cs (omega (arith, h)))

-- ---- what all channels keep, and give

fault-in-range : (c : Channel) → in_range (value_sampled (sampled_fault c)) ≡ true
unfolding by_tests
fault-in-range c = ap (λ (x : Option Sampled). in_range (value_sampled x)) (fault-by-tests c) ∙ go c.known (leb max_faults c.faults)
  where
    go : (k b : Bool) → in_range (value_sampled (by_tests c k b)) ≡ true
    go true true = zero-in-range
    go true false = value-in-range c.last
    go false b = zero-in-range

sampled-in-range : (c : Channel) (r : Reading) → in_range (value_sampled (sampled c r)) ≡ true
sampled-in-range c (Volts x) = go (thousandths_of x) refl
  where
    go : (y : Option ℤ) → thousandths_of x ≡ y → in_range (value_sampled (sampled_as c x y)) ≡ true
    go (Some v) e = sym (ap (λ (z : Option ℤ). in_range (value_of z)) e) ∙ value-in-range x
    go None e = fault-in-range c
sampled-in-range c Break = fault-in-range c
sampled-in-range c Short = fault-in-range c

-- what holds of a place, and of what is put into one, holds of the place then
set_keeps : {A : Type 0} (P : A → Type 0) (d : A) (l : List A) (i : ℕ) (v : A) (j : ℕ) → P v → P (get_or l j d) → P (get_or (set l i v) j d)
set_keeps P d [] i v j p h = h
set_keeps P d (x ∷ xs) zero v zero p h = p
set_keeps P d (x ∷ xs) zero v (suc j) p h = h
set_keeps P d (x ∷ xs) (suc i) v zero p h = h
set_keeps P d (x ∷ xs) (suc i) v (suc j) p h = set_keeps P d xs i v j p h

zero-each : (n j : ℕ) → in_range (get_or (replicate n (pos 0)) j (pos 0)) ≡ true
zero-each zero j = zero-in-range
zero-each (suc n) zero = zero-in-range
zero-each (suc n) (suc j) = zero-each n j

module _ (cs : List Channel) (rs : List Reading) where
  values-each : (n j : ℕ) → in_range (get_or (values_sampled cs rs n) j (pos 0)) ≡ true
  unfolding values_sampled
  values-each zero j = zero-each channel_count j
  values-each (suc n) j = set_keeps (λ (v : ℤ). in_range v ≡ true) (pos 0) (values_sampled cs rs n) n (given_at cs rs n) j (sampled-in-range (get_or cs n no_channel) (get_or rs n no_reading)) (values-each n j)

  -- each is a value, and there are eight
  pub samples-in-range : (j : ℕ) → in_range (get_or (values_given (sampled_all cs rs)) j (pos 0)) ≡ true
  unfolding sampled_all
  samples-in-range j = go (all_good cs rs channel_count)
    where
      go : (b : Bool) → in_range (get_or (values_given (elim b as (λ _. Option Samples) [ true ↦ Some (record { values = values_sampled cs rs channel_count; channels = channels_sampled cs rs channel_count }) | false ↦ None ])) j (pos 0)) ≡ true
      go true = values-each channel_count j
      go false = zero-each channel_count j

  pub samples-length : length (values_given (sampled_all cs rs)) ≡ channel_count
  unfolding sampled_all
  samples-length = go (all_good cs rs channel_count)
    where
      go : (b : Bool) → length (values_given (elim b as (λ _. Option Samples) [ true ↦ Some (record { values = values_sampled cs rs channel_count; channels = channels_sampled cs rs channel_count }) | false ↦ None ])) ≡ channel_count
      go true = length-values cs rs channel_count
      go false = refl

-- the test of the first n says it of each, and each makes it true
sound-at : (cs : List Channel) (n : ℕ) → are_channels cs n ≡ true → (k : ℕ) → k < n → is_channel (get_or cs k no_channel) ≡ true
unfolding are_channels
sound-at cs zero h k l = absurd (omega arith)
sound-at cs (suc n) h k l = go (eqb k n) refl (sound-at cs n (both (are_channels cs n) (is_channel (get_or cs n no_channel)) h).0 k)
  where
    go : (b : Bool) → eqb k n ≡ b → (k < n → is_channel (get_or cs k no_channel) ≡ true) → is_channel (get_or cs k no_channel) ≡ true
    go true e f = let p : k ≡ n = eqb-true k n e in rw p (both (are_channels cs n) (is_channel (get_or cs n no_channel)) h).1
    go false e f = let p : k ≡ n → ⊥ = eqb-false k n e in f (omega arith)

at-sound : (cs : List Channel) (n : ℕ) → ((k : ℕ) → k < n → is_channel (get_or cs k no_channel) ≡ true) → are_channels cs n ≡ true
unfolding are_channels
at-sound cs zero h = refl
at-sound cs (suc n) h = rw (at-sound cs n (λ k l. h k (omega arith)), h n (omega arith))

-- CHANNELS THAT ARE SOUND STAY SOUND, whatever is read
module _ (cs : List Channel) (rs : List Reading) (h : are_channels cs channel_count ≡ true) where
  kept-sound : (n k : ℕ) → n ≤ channel_count → k < channel_count → is_channel (get_or (channels_sampled cs rs n) k no_channel) ≡ true
  unfolding channels_sampled
  kept-sound zero k m l = sound-at cs channel_count h k l
  kept-sound (suc n) k m l =
      set_keeps (λ (c : Channel). is_channel c ≡ true) no_channel (channels_sampled cs rs n) n (kept_at cs rs n) k
      (sampled-sound (get_or cs n no_channel) (get_or rs n no_reading) (sound-at cs channel_count h n (omega arith))) (kept-sound n k (omega arith) l)

  pub samples-sound : are_channels (channels_kept cs (sampled_all cs rs)) channel_count ≡ true
  unfolding sampled_all
  samples-sound = go (all_good cs rs channel_count)
    where
      go : (b : Bool) → are_channels (channels_kept cs (elim b as (λ _. Option Samples) [ true ↦ Some (record { values = values_sampled cs rs channel_count; channels = channels_sampled cs rs channel_count }) | false ↦ None ])) channel_count ≡ true
      go true = at-sound (channels_sampled cs rs channel_count) channel_count (λ k l. kept-sound channel_count k (omega arith) l)
      go false = h

-- power-on is sound
pub fresh-sound : are_channels fresh_channels channel_count ≡ true
unfolding are_channels fresh_channels is_channel
fresh-sound = refl

-- ---- a row of faulty beats

-- what a channel keeps after some readings, the first first
unfoldable pub kept_after : Channel → List Reading → Channel
kept_after c [] = c
kept_after c (r ∷ rs) = kept_after (channel_sampled c (sampled c r)) rs

-- each of some readings is a fault
abbrev pub AllFaults : List Reading → Type 0
AllFaults [] = Unit {0}
AllFaults (r ∷ rs) = is_fault r × AllFaults rs

abbrev counted : Float → ℕ → Channel
counted x n = record { known = true; last = x; faults = n }

-- up to 25 faults are counted, and the last good reading stays
row : (x : Float) (n : ℕ) (rs : List Reading) → AllFaults rs → n + length rs ≤ max_faults → kept_after (counted x n) rs ≡ counted x (n + length rs)
unfolding kept_after
row x n [] h l = ap (counted x) (omega arith)
row x n (r ∷ rs) h l =
    let e : n + 1 + length rs ≡ n + suc (length rs) = omega arith in
    ap (λ (s : Option Sampled). kept_after (channel_sampled (counted x n) s) rs) (fault-within-25 (counted x n) r h.0 refl (omega arith)) ∙ row x (n + 1) rs h.1 (omega arith) ∙ ap (counted x) e

-- behind a good reading, whatever was before it
after-good : (c : Channel) (x : Float) (v : ℤ) (rs : List Reading) → thousandths_of x ≡ Some v → AllFaults rs → length rs ≤ max_faults → kept_after c (Volts x ∷ rs) ≡ counted x (length rs)
unfolding kept_after
after-good c x v rs e h l =
    let z : 0 + length rs ≡ length rs = omega arith in
    ap (λ (s : Option Sampled). kept_after (channel_sampled c s) rs) (as-received c x v e) ∙ row x 0 rs h (omega arith) ∙ ap (counted x) z

-- THE LAST GOOD VALUE SERVES FOR 25 FAULTY BEATS IN A ROW
pub serves-25 : (c : Channel) (x : Float) (v : ℤ) (rs : List Reading) (r : Reading) → thousandths_of x ≡ Some v → AllFaults rs → is_fault r → length rs < max_faults →
    sampled (kept_after c (Volts x ∷ rs)) r ≡ Some (record { value = v; channel = record { known = true; last = x; faults = length rs + 1 } })
serves-25 c x v rs r e h f l =
    ap (λ (k : Channel). sampled k r) (after-good c x v rs e h (omega arith))
    ∙ fault-within-25 (counted x (length rs)) r f refl l
    ∙ ap (λ (y : Option ℤ). Some (record { value = value_of y; channel = record { known = true; last = x; faults = length rs + 1 } })) e

-- AND NOT IN THE 26TH
pub refuses-the-26th : (c : Channel) (x : Float) (v : ℤ) (rs : List Reading) (r : Reading) → thousandths_of x ≡ Some v → AllFaults rs → is_fault r → length rs ≡ max_faults →
    is_some (sampled (kept_after c (Volts x ∷ rs)) r) ≡ false
refuses-the-26th c x v rs r e h f l =
    ap (λ (k : Channel). is_some (sampled k r)) (after-good c x v rs e h (omega arith))
    ∙ ap (λ (s : Option Sampled). is_some s) (fault-beyond-25 (counted x (length rs)) r f (omega arith))

-- ---- whether all are good

and-false : (b : Bool) → b && false ≡ false
and-false true = refl
and-false false = refl

module _ (cs : List Channel) (rs : List Reading) where
  one-refuses : (n k : ℕ) → k < n → is_some (sampled_at cs rs k) ≡ false → all_good cs rs n ≡ false
  unfolding all_good
  one-refuses zero k l h = absurd (omega arith)
  one-refuses (suc n) k l h = go (eqb k n) refl (λ m. one-refuses n k m h)
    where
      go : (e : Bool) → eqb k n ≡ e → (k < n → all_good cs rs n ≡ false) → all_good cs rs n && is_some (sampled_at cs rs n) ≡ false
      go true e f = let p : k ≡ n = eqb-true k n e in rw (← p, h) (and-false (all_good cs rs k))
      go false e f = let p : k ≡ n → ⊥ = eqb-false k n e in rw (f (omega arith))

  -- one that refuses is enough
  pub refused-by-one : (k : ℕ) → k < channel_count → is_some (sampled_at cs rs k) ≡ false → is_some (sampled_all cs rs) ≡ false
  unfolding sampled_all
  refused-by-one k l h = rw (sampled_all, one-refuses channel_count k l h)
