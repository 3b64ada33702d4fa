-- Laws of the host's calls lock, unlock, cancel and control reset: each keeps a sound state sound. Nothing is assumed.
use Rattle.std.specs.Prelude.{◌≡◌, refl, Bool, true, false, ◌⊎◌, List, ◌++◌, ℕ, ◌+◌, ◌-◌, min, ◌≤◌, ◌<◌, ltb, ℤ, pos, length, get_or, take, drop, replicate, Result, Ok, Err, IfOk, IfErr}
use Rattle.std.proofs.Common.{sym, ◌∙◌, inl, inr, arith, length-append, length-take, length-drop, get_or-take, get_or-drop, ltb-true}
use Rattle.std.proofs.Math.Decide.{dec_lt}
use Rattle.std.proofs.Math.ListN.{get_or-append, get_or-eq_default}
use Rattle.values.specs.Choice.{either, if_not}
use Rattle.values.specs.Numbers.{clash}
use Rattle.checking.specs.declared.line.Line.{Line}
use Rattle.values.specs.FifoLaws.{same-each}
use Rattle.engine.specs.declared.state.State.{State}
use Rattle.engine.specs.declared.calls.Called.{Called}
use Rattle.tokens.specs.Token.{max_lines}
use Rattle.engine.specs.Set.{rank_in, lines_of}
use Rattle.working.specs.Variables.{marker_at, count_at, state_cells}
use Rattle.engine.specs.Sound.{is_sound, is_cell, is_flag}
use Rattle.engine.specs.NamedLine.{found_at, found}
use Rattle.engine.specs.Calls.{with_locked, with_cancelled, called, locked_call, lock_call, unlock_call, cancel_call, reset_cancelled, zeroed, control_reset_state, control_reset_call}
use Rattle.engine.specs.ResetLaws.{reset-keeps}
use Rattle.soundness.specs.GoodAnswers.{Not22}
use Rattle.soundness.specs.CountSoundLaws.{reset-keeps-counts}
use Rattle.soundness.specs.CellSoundLaws.{append-behind, CellsRight, FlagsRight, zero-cell, set-sound, state-right, right-state, flag-clear, flag-none, flag-beyond, lock-keeps, cancel-keeps, cells-swapped}

-- ---- the line that a call names

-- one that is found is a line of the set that is not cancelled
abbrev pub Named : ℕ → List Bool → Result ℕ ℕ → Type 0
Named count cancelled f = IfOk f (λ k. (k < count) × (get_or cancelled k false ≡ false))

-- so is what a call finds
pub found-named : (s : List ℕ) (st : State) (n : ℕ) → Named (lines_of s).count st.cancelled (found s st n)
unfolding found found_at
found-named s st n =
    let count = (lines_of s).count in
    let k = rank_in (lines_of s).numbers n 0 in
    if_not (Named count st.cancelled) (is_sound s st) (λ p. tt) λ p.
    if_not (Named count st.cancelled) (ltb k count) (λ q. tt) λ q.
    either (Named count st.cancelled) (get_or st.cancelled k false) (λ r. tt) (λ r. (ltb-true k count q, r))

-- a call keeps a sound state sound where its change does, for such a line
called-keeps : (s : List ℕ) (st : State) (f : Result ℕ ℕ) (change : ℕ → State) → is_sound s st ≡ true → Named (lines_of s).count st.cancelled f →
    ((k : ℕ) → k < (lines_of s).count → get_or st.cancelled k false ≡ false → is_sound s (change k) ≡ true) → is_sound s (called st f change).state ≡ true
unfolding called
called-keeps s st (Ok k) change h n keeps = keeps k n.0 n.1
called-keeps s st (Err c) change h n keeps = h

locked-keeps : (s : List ℕ) (st : State) (n : ℕ) (b : Bool) → is_sound s st ≡ true → is_sound s (locked_call s st n b).state ≡ true
unfolding locked_call
locked-keeps s st n b h =
    let e = state-right s st h in
    called-keeps s st (found s st n) (λ k. with_locked st k b) h (found-named s st n) λ k l c.
    right-state s (with_locked st k b) (set-sound s st h)
    (record { cells = e.cells; channels = e.channels; flags = lock-keeps (lines_of s).count st.locked st.cancelled st.memory e.flags k l b c; acts = e.acts })

-- lock keeps a sound state sound
pub lock_call-keeps : (s : List ℕ) (st : State) (n : ℕ) → is_sound s st ≡ true → is_sound s (lock_call s st n).state ≡ true
unfolding lock_call
lock_call-keeps s st n = locked-keeps s st n true

-- unlock does
pub unlock_call-keeps : (s : List ℕ) (st : State) (n : ℕ) → is_sound s st ≡ true → is_sound s (unlock_call s st n).state ≡ true
unfolding unlock_call
unlock_call-keeps s st n = locked-keeps s st n false

-- cancel does
pub cancel_call-keeps : (s : List ℕ) (st : State) (n : ℕ) → is_sound s st ≡ true → is_sound s (cancel_call s st n).state ≡ true
unfolding cancel_call
cancel_call-keeps s st n h =
    let e = state-right s st h in
    called-keeps s st (found s st n) (λ k. with_cancelled st k) h (found-named s st n) λ k l c.
    right-state s (with_cancelled st k) (set-sound s st h)
    (record { cells = e.cells; channels = e.channels; flags = cancel-keeps (lines_of s).count st.locked st.cancelled st.memory e.flags k l; acts = e.acts })

-- ---- control reset

reset-flags : (count : ℕ) (ls : List Line) (a cs b : List Bool) → FlagsRight count a cs b →
    FlagsRight count (replicate max_lines false) (reset_cancelled ls cs count) (replicate max_lines false)
reset-flags count ls a cs b h k l = rw (same-each max_lines k false) (by_place (dec_lt k count))
  where
    by_place : Dec (k < count) → is_flag count k false (get_or (reset_cancelled ls cs count) k false) false ≡ true
    by_place (yes m) = flag-clear count k _ m
    by_place (no m) = rw (reset-keeps ls cs count k (omega (arith, m)), flag-beyond count k _ _ _ (omega (arith, m)) (h k l)) (flag-none count k)

-- cells from the markers up to the counts are put in: each cell stays, or one of those stands there
middle-place : (c z : List ℤ) (i : ℕ) → length z ≡ (count_at - marker_at) → ((j : ℕ) → get_or z j (pos 0) ≡ pos 0) →
    (get_or (take marker_at c ++ (z ++ drop count_at c)) i (pos 0) ≡ get_or c i (pos 0)) ⊎ ((get_or (take marker_at c ++ (z ++ drop count_at c)) i (pos 0) ≡ pos 0) × (i < count_at))
middle-place c z i lz zs = by_place (dec_lt i n) (dec_lt (i - n) (count_at - marker_at)) (dec_lt (length c) marker_at) (dec_lt i count_at)
  where
    n : ℕ
    n = length (take marker_at c)

    size : n ≡ min marker_at (length c)
    size = length-take marker_at c

    behind : n ≤ i → get_or (take marker_at c ++ (z ++ drop count_at c)) i (pos 0) ≡ get_or (z ++ drop count_at c) (i - n) (pos 0)
    behind l = append-behind (take marker_at c) (z ++ drop count_at c) i (pos 0) l

    inside : n ≤ i → i - n < (count_at - marker_at) → get_or (take marker_at c ++ (z ++ drop count_at c)) i (pos 0) ≡ pos 0
    inside l m = behind l ∙ get_or-append z (drop count_at c) (pos 0) (i - n) (omega arith) ∙ zs (i - n)

    beyond : n ≤ i → (count_at - marker_at) ≤ i - n → get_or (take marker_at c ++ (z ++ drop count_at c)) i (pos 0) ≡ get_or c (count_at + (i - n - (count_at - marker_at))) (pos 0)
    beyond l m =
        let e : i - n - length z ≡ i - n - (count_at - marker_at) = omega arith in
        behind l ∙ append-behind z (drop count_at c) (i - n) (pos 0) (omega arith) ∙ rw e (get_or-drop count_at c (i - n - (count_at - marker_at)) (pos 0))

    none : (j : ℕ) → length c ≤ j → get_or c j (pos 0) ≡ pos 0
    none j l = get_or-eq_default c (pos 0) {n = j} l

    by_place : Dec (i < n) → Dec (i - n < (count_at - marker_at)) → Dec (length c < marker_at) → Dec (i < count_at) →
        (get_or (take marker_at c ++ (z ++ drop count_at c)) i (pos 0) ≡ get_or c i (pos 0)) ⊎ ((get_or (take marker_at c ++ (z ++ drop count_at c)) i (pos 0) ≡ pos 0) × (i < count_at))
    by_place (yes l) a b e = inl (get_or-append (take marker_at c) (z ++ drop count_at c) (pos 0) i l ∙ get_or-take marker_at c i (pos 0) (omega (arith, size)))
    by_place (no l) (yes a) b (yes e) = inr (inside (omega (arith, l)) a, e)
    by_place (no l) (yes a) b (no e) = inl (inside (omega (arith, l)) a ∙ sym (none i (omega (arith, l, e, size))))
    by_place (no l) (no a) (yes b) e = inl (beyond (omega (arith, l)) (omega (arith, a)) ∙ none _ (omega arith) ∙ sym (none i (omega (arith, l, a, size))))
    by_place (no l) (no a) (no b) e =
        let q : count_at + (i - n - (count_at - marker_at)) ≡ i = omega (arith, l, a, b, size) in
        inl (rw q at (beyond (omega (arith, l)) (omega (arith, a))))

zeroed-place : (c : List ℤ) (i : ℕ) → (get_or (zeroed c) i (pos 0) ≡ get_or c i (pos 0)) ⊎ ((get_or (zeroed c) i (pos 0) ≡ pos 0) × (i < count_at))
unfolding zeroed
zeroed-place c i = middle-place c (replicate (count_at - marker_at) (pos 0)) i refl (λ j. same-each (count_at - marker_at) j (pos 0))

zeroed-right : (c : List ℤ) → CellsRight c → CellsRight (zeroed c)
zeroed-right c h i = by_place (zeroed-place c i)
  where
    by_place : (get_or (zeroed c) i (pos 0) ≡ get_or c i (pos 0)) ⊎ ((get_or (zeroed c) i (pos 0) ≡ pos 0) × (i < count_at)) → is_cell i (get_or (zeroed c) i (pos 0)) ≡ true
    by_place (inl e) = rw e (h i)
    by_place (inr e) = rw e.0 (zero-cell i)

zeroed-count : (c : List ℤ) (k : ℕ) → get_or (zeroed c) (count_at + k) (pos 0) ≡ get_or c (count_at + k) (pos 0)
zeroed-count c k = by_place (zeroed-place c (count_at + k))
  where
    by_place : (get_or (zeroed c) (count_at + k) (pos 0) ≡ get_or c (count_at + k) (pos 0)) ⊎ ((get_or (zeroed c) (count_at + k) (pos 0) ≡ pos 0) × (count_at + k < count_at)) → get_or (zeroed c) (count_at + k) (pos 0) ≡ get_or c (count_at + k) (pos 0)
    by_place (inl e) = e
    by_place (inr e) = absurd (omega (arith, e.1))

-- control reset keeps a sound state sound
pub control_reset_call-keeps : (s : List ℕ) (st : State) → is_sound s st ≡ true → is_sound s (control_reset_call s st).state ≡ true
unfolding control_reset_call control_reset_state
control_reset_call-keeps s st h =
    let e = state-right s st h in
    if_not (λ (c : Called). is_sound s c.state ≡ true) (is_sound s st) (λ p. h) λ p.
    right-state s _ (set-sound s st h)
    (record {
      cells = cells-swapped st.r st.cells (zeroed st.cells) e.cells (zeroed-right st.cells e.cells.right) (zeroed-count st.cells);
      channels = e.channels;
      flags = reset-flags (lines_of s).count (lines_of s).items st.locked st.cancelled st.memory e.flags;
      acts = reset-keeps-counts (lines_of s).count st.acts e.acts _ max_lines;
    })

-- ---- what else each leaves, and what it answers

-- R and the cells stay, and the code is not 22
pub record Answers (st : State) (c : Called) : Type 0 where
  pub r : c.state.r ≡ st.r
  pub cells : c.state.cells ≡ st.cells
  pub code : Not22 c.code

found-code : (s : List ℕ) (st : State) (n : ℕ) → is_sound s st ≡ true → IfErr (found s st n) Not22
unfolding found found_at
found-code s st n h =
    let k = rank_in (lines_of s).numbers n 0 in
    if_not (λ (f : Result ℕ ℕ). IfErr f Not22) (is_sound s st) (λ p. clash (cc)) λ p.
    if_not (λ (f : Result ℕ ℕ). IfErr f Not22) (ltb k (lines_of s).count) (λ q e. omega arith) λ q.
    either (λ (f : Result ℕ ℕ). IfErr f Not22) (get_or st.cancelled k false) (λ r e. omega arith) (λ r. tt)

called-answers : (st : State) (f : Result ℕ ℕ) (change : ℕ → State) → IfErr f Not22 → ((k : ℕ) → ((change k).r ≡ st.r) × ((change k).cells ≡ st.cells)) → Answers st (called st f change)
unfolding called
called-answers st (Ok k) change n same = record { r = (same k).0; cells = (same k).1; code = λ e. omega arith }
called-answers st (Err c) change n same = record { r = refl; cells = refl; code = n }

-- so of lock
pub lock_call-answers : (s : List ℕ) (st : State) (n : ℕ) → is_sound s st ≡ true → Answers st (lock_call s st n)
unfolding lock_call locked_call
lock_call-answers s st n h = called-answers st (found s st n) (λ k. with_locked st k true) (found-code s st n h) (λ k. (refl, refl))

-- of unlock
pub unlock_call-answers : (s : List ℕ) (st : State) (n : ℕ) → is_sound s st ≡ true → Answers st (unlock_call s st n)
unfolding unlock_call locked_call
unlock_call-answers s st n h = called-answers st (found s st n) (λ k. with_locked st k false) (found-code s st n h) (λ k. (refl, refl))

-- and of cancel
pub cancel_call-answers : (s : List ℕ) (st : State) (n : ℕ) → is_sound s st ≡ true → Answers st (cancel_call s st n)
unfolding cancel_call
cancel_call-answers s st n h = called-answers st (found s st n) (λ k. with_cancelled st k) (found-code s st n h) (λ k. (refl, refl))

-- control reset keeps R
pub control_reset_call-r : (s : List ℕ) (st : State) → (control_reset_call s st).state.r ≡ st.r
unfolding control_reset_call control_reset_state
control_reset_call-r s st = either (λ (c : Called). c.state.r ≡ st.r) (is_sound s st) (λ p. refl) (λ p. refl)

-- the number of the cells
pub control_reset_call-length : (s : List ℕ) (st : State) → length st.cells ≡ state_cells → length (control_reset_call s st).state.cells ≡ state_cells
unfolding control_reset_call control_reset_state zeroed
control_reset_call-length s st l =
    either (λ (c : Called). length c.state.cells ≡ state_cells) (is_sound s st)
    (λ p. omega (arith, length-append (take marker_at st.cells) (replicate (count_at - marker_at) (pos 0) ++ drop count_at st.cells), length-append (replicate (count_at - marker_at) (pos 0)) (drop count_at st.cells), length-take marker_at st.cells, length-drop count_at st.cells))
    (λ p. l)

-- and its code is not 22
pub control_reset_call-code : (s : List ℕ) (st : State) → is_sound s st ≡ true → Not22 (control_reset_call s st).code
unfolding control_reset_call
control_reset_call-code s st h = either (λ (c : Called). Not22 c.code) (is_sound s st) (λ p e. omega arith) (λ p. clash (cc))
