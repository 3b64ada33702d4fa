-- What synstat prints, beside what synrun prints of the same input: the same L line, the same E line, or, where synrun prints END, the status picture of the state that the lines leave which synrun took, beats and calls. Assumes nothing.
use Rattle.std.specs.Prelude.{◌≡◌, true, length, take, None, Some, IsOkAnd}
use Rattle.std.proofs.Math.Path.{refl, ap}
use Rattle.std.proofs.Common.{sym, ◌∙◌, arith, eq-eqb, ne_eqb}
use mathlib.Core.List.{List, [], ◌∷◌, ◌++◌, map, append_assoc}
use Prim.Native.Nat.{ℕ, zero, suc, ◌+◌, ◌<◌, ◌≤◌}
use Rattle.values.specs.Numbers.{clash}
use Rattle.values.specs.Choice.{chosen}
use Rattle.engine.specs.declared.state.State.{State}
use Rattle.engine.specs.Set.{lines_of, lines_of}
use Rattle.engine.specs.Sound.{is_sound}
use Rattle.engine.specs.Status.{status_of}
use Rattle.engine.specs.State.{power_on}
use Rattle.soundness.specs.Call.{Call, do_beat, do_program_end, do_control_reset, state_after, after_all}
use Rattle.demands.proofs.AskLaws.{load-power-on}
use Rattle.loading.specs.LoadedSound.{load-always-sound}
use Rattle.reader.specs.Load.{load_answer, load_set}
use Rattle.transcript.specs.Input.{input_of}
use Rattle.transcript.specs.declared.beat_line.Said.{Said}
use Rattle.transcript.specs.declared.beat_line.Said.TheVariants.{Beat, ProgramEnd, ControlReset}
use Rattle.transcript.specs.BeatLine.{line_said}
use Rattle.transcript.specs.Output.{load_line, error_line, end_line}
use Rattle.transcript.specs.declared.view.View.{View}
use Rattle.transcript.specs.declared.view.View.TheVariants.{Run, Status}
use Rattle.transcript.specs.declared.totals.Totals.{Totals}
use Rattle.transcript.specs.Totals.{last_line, no_totals, picture, end_by, ended}
use Rattle.transcript.specs.Tally.{given_by, answer_of, beat_text, printed_by, beat_printed, said_counted, said_printed}
use Rattle.transcript.specs.Synrun.{beats_text, printout, synrun, synstat}
use Rattle.sessions.specs.EndCountLaws.{beats_of}
use Rattle.sessions.specs.SessionLaws.{said-lines, said-view, beats-over, beats-none, beats-some, loaded-zero, loaded-suc}

-- ---- the lines behind the line *

-- what a line says, as a call
abbrev pub call_by : Said → Call
call_by (Beat l) = do_beat (given_by l)
call_by ProgramEnd = do_program_end
call_by ControlReset = do_control_reset

-- each of some lines is well-formed, and this is what they say
abbrev pub Say : List (List ℕ) → List Said → Type 0
Say ls xs = map line_said ls ≡ map Some xs

-- how many of them say a beat
unfoldable pub beats_among : List Said → ℕ
beats_among [] = 0
beats_among (x ∷ xs) = beats_of x + beats_among xs

-- the totals after them, and what is printed of them
unfoldable totals_after : List ℕ → Totals → List Said → Totals
totals_after s n [] = n
totals_after s n (x ∷ xs) = totals_after s (said_counted s n x) xs

unfoldable printed_after : List ℕ → Totals → List Said → List ℕ
printed_after s n [] = []
printed_after s n (x ∷ xs) = said_printed s n x ++ printed_after s (said_counted s n x) xs

after-view : (s : List ℕ) (n : Totals) (xs : List Said) → (totals_after s n xs).counts.view ≡ n.counts.view
unfolding totals_after
after-view s n [] = refl
after-view s n (x ∷ xs) = after-view s (said_counted s n x) xs ∙ said-view s n x

said-state : (s : List ℕ) (n : Totals) (x : Said) → (said_counted s n x).state ≡ state_after s n.state (call_by x)
unfolding answer_of
said-state s n (Beat l) = refl
said-state s n ProgramEnd = refl
said-state s n ControlReset = refl

after-state : (s : List ℕ) (n : Totals) (xs : List Said) → (totals_after s n xs).state ≡ after_all s n.state (map call_by xs)
unfolding totals_after after_all
after-state s n [] = refl
after-state s n (x ∷ xs) = after-state s (said_counted s n x) xs ∙ ap (λ (y : State). after_all s y (map call_by xs)) (said-state s n x)

-- each is counted as a line, and as a beat unless it is a call
said-beat : (s : List ℕ) (n : Totals) (x : Said) → (said_counted s n x).counts.beats.0 ≡ n.counts.beats.0 + beats_of x
said-beat s n (Beat l) = refl
said-beat s n ProgramEnd = omega arith
said-beat s n ControlReset = omega arith

after-beats : (s : List ℕ) (n : Totals) (xs : List Said) → (totals_after s n xs).counts.beats.0 ≡ n.counts.beats.0 + beats_among xs
unfolding totals_after beats_among
after-beats s n [] = omega arith
after-beats s n (x ∷ xs) = let e = after-beats s (said_counted s n x) xs in let b = said-beat s n x in omega arith

after-lines : (s : List ℕ) (n : Totals) (xs : List Said) → (totals_after s n xs).counts.lines ≡ n.counts.lines + length xs
unfolding totals_after
after-lines s n [] = omega arith
after-lines s n (x ∷ xs) = let e = after-lines s (said_counted s n x) xs in let c = said-lines s n x in omega arith

-- in the view of the picture nothing is printed of a line
said-silent : (s : List ℕ) (n : Totals) (x : Said) → n.counts.view ≡ Status → said_printed s n x ≡ []
unfolding beat_printed
said-silent s n (Beat l) v = ap (λ (w : View). printed_by w (beat_text s n l)) v
said-silent s n ProgramEnd v = refl
said-silent s n ControlReset v = refl

silent : (s : List ℕ) (n : Totals) (xs : List Said) → n.counts.view ≡ Status → printed_after s n xs ≡ []
unfolding printed_after
silent s n [] v = refl
silent s n (x ∷ xs) v = ap (λ (y : List ℕ). y ++ printed_after s (said_counted s n x) xs) (said-silent s n x v) ∙ silent s (said_counted s n x) xs (said-view s n x ∙ v)

-- ---- lines that say something

say-first : (l : List ℕ) (ls : List (List ℕ)) (x : Said) (xs : List Said) → Say (l ∷ ls) (x ∷ xs) → (line_said l ≡ Some x) × Say ls xs
say-first l ls x xs h = (cc, cc)

module _ (s : List ℕ) where
  -- a line before what follows
  line_first : (n : Totals) (x : Said) (printed rest text : List ℕ) → text ≡ printed ++ rest → said_printed s n x ++ text ≡ (said_printed s n x ++ printed) ++ rest
  line_first n x printed rest text e = ap (λ (y : List ℕ). said_printed s n x ++ y) e ∙ sym (append_assoc (said_printed s n x) printed rest)

  -- some lines, and those behind them
  beats-then : (ls ks : List (List ℕ)) (xs : List Said) (n : Totals) → Say ls xs → n.counts.lines + length xs ≤ last_line → beats_text s n (ls ++ ks) ≡ printed_after s n xs ++ beats_text s (totals_after s n xs) ks
  unfolding printed_after totals_after
  beats-then [] ks [] n h r = refl
  beats-then [] ks (x ∷ xs) n h r = clash (cc)
  beats-then (l ∷ ls) ks [] n h r = clash (cc)
  beats-then (l ∷ ls) ks (x ∷ xs) n h r =
      let m = said_counted s n x in
      let c = said-lines s n x in
      let f = say-first l ls x xs h in
      beats-some s n l (ls ++ ks) x (ne_eqb n.counts.lines last_line (λ e. omega arith)) f.0
      ∙ line_first n x (printed_after s m xs) (beats_text s (totals_after s m xs) ks) (beats_text s m (ls ++ ks)) (beats-then ls ks xs m f.1 (omega arith))

  -- with k lines left, the first k, and the end
  beats-end : (ls : List (List ℕ)) (xs : List Said) (n : Totals) (k : ℕ) → Say ls xs → n.counts.lines + k ≡ last_line → beats_text s n ls ≡ printed_after s n (take k xs) ++ ended s (totals_after s n (take k xs))
  unfolding printed_after totals_after beats_text
  beats-end ls xs n zero h r = beats-over s n ls (eq-eqb n.counts.lines last_line (omega arith))
  beats-end [] [] n (suc k) h r = refl
  beats-end [] (x ∷ xs) n (suc k) h r = clash (cc)
  beats-end (l ∷ ls) [] n (suc k) h r = clash (cc)
  beats-end (l ∷ ls) (x ∷ xs) n (suc k) h r =
      let m = said_counted s n x in
      let c = said-lines s n x in
      let f = say-first l ls x xs h in
      beats-some s n l ls x (ne_eqb n.counts.lines last_line (λ e. omega arith)) f.0
      ∙ line_first n x (printed_after s m (take k xs)) (ended s (totals_after s m (take k xs))) (beats_text s m ls) (beats-end ls xs m k f.1 (omega arith))

-- what stands at the end, from the beginning: the picture, and END
end-status : (s : List ℕ) (xs : List Said) → printed_after s (no_totals Status) xs ++ ended s (totals_after s (no_totals Status) xs) ≡ picture s (after_all s power_on (map call_by xs))
end-status s xs =
    let n = totals_after s (no_totals Status) xs in
    ap (λ (y : List ℕ). y ++ ended s n) (silent s (no_totals Status) xs refl)
    ∙ ap (λ (v : View). end_by v s n) (after-view s (no_totals Status) xs)
    ∙ ap (picture s) (after-state s (no_totals Status) xs)

end-run : (s : List ℕ) (xs : List Said) → let n = totals_after s (no_totals Run) xs in ended s n ≡ end_line (beats_among xs) n.counts.coded n.counts.orders
end-run s xs =
    let n = totals_after s (no_totals Run) xs in
    let b : n.counts.beats.0 ≡ beats_among xs = let e = after-beats s (no_totals Run) xs in omega arith in
    ap (λ (v : View). end_by v s n) (after-view s (no_totals Run) xs) ∙ ap (λ (y : ℕ). end_line y n.counts.coded n.counts.orders) b

-- ---- all that is printed

-- where the text is refused, both print only its L line
pub status-refused : (t : List ℕ) (c : ℕ) → (load_answer (input_of t).text).code ≡ suc c →
    let l = load_line (suc c) (load_answer (input_of t).text).line in
    (synstat t ≡ l) × (synrun t ≡ l)
unfolding printout
status-refused t c h = (loaded-suc Status (input_of t) c h, loaded-suc Run (input_of t) c h)

module _ (t : List ℕ) (taken : (load_answer (input_of t).text).code ≡ 0) where
  abbrev loaded : List ℕ
  loaded = load_set (input_of t).text

  -- where an ill-formed line stands behind fewer than 1,000,000 lines, both end with its E line, and synstat prints nothing else
  pub status-ill-formed : (ls ks : List (List ℕ)) (l : List ℕ) (xs : List Said) → (input_of t).beats ≡ ls ++ (l ∷ ks) → Say ls xs → length xs < last_line → line_said l ≡ None →
      (synstat t ≡ error_line (length xs + 1)) × ((shown : List ℕ) × (synrun t ≡ shown ++ error_line (length xs + 1)))
  status-ill-formed ls ks l xs e h r o = (both Status ∙ ap (λ (y : List ℕ). y ++ error_line (length xs + 1)) (silent loaded (no_totals Status) xs refl), (printed_after loaded (no_totals Run) xs, both Run))
    where
      both : (v : View) → printout v t ≡ printed_after loaded (no_totals v) xs ++ error_line (length xs + 1)
      both v =
          let n = totals_after loaded (no_totals v) xs in
          let c = after-lines loaded (no_totals v) xs in
          let k : n.counts.lines + 1 ≡ length xs + 1 = omega arith in
          let start : printout v t ≡ beats_text loaded (no_totals v) (input_of t).beats = unfold printout in loaded-zero v (input_of t) taken in
          start ∙ ap (beats_text loaded (no_totals v)) e ∙ beats-then loaded ls (l ∷ ks) xs (no_totals v) h (omega arith)
          ∙ ap (λ (y : List ℕ). printed_after loaded (no_totals v) xs ++ y) (beats-none loaded n l ks (ne_eqb n.counts.lines last_line (λ z. omega arith)) o ∙ ap error_line k)

  -- where all lines are well-formed, with xs what they say, the first 1,000,000 are taken: synrun ends with END, whose first number counts the beats among them; and synstat prints the status picture of
  -- the state that these lines leave, beats and calls, from power-on, and nothing else
  pub status-at-the-end : (xs : List Said) → Say (input_of t).beats xs →
      let lines = take last_line xs in
      (synstat t ≡ picture loaded (after_all loaded power_on (map call_by lines))) × ((shown : List ℕ) × (coded : ℕ) × (orders : ℕ) × (synrun t ≡ shown ++ end_line (beats_among lines) coded orders))
  status-at-the-end xs h =
      let lines = take last_line xs in
      let runs = totals_after loaded (no_totals Run) lines in
      let printed = printed_after loaded (no_totals Run) lines in
      (at-end Status ∙ end-status loaded lines, (printed, runs.counts.coded, runs.counts.orders, at-end Run ∙ ap (λ (y : List ℕ). printed ++ y) (end-run loaded lines)))
    where
      at-end : (v : View) → printout v t ≡ printed_after loaded (no_totals v) (take last_line xs) ++ ended loaded (totals_after loaded (no_totals v) (take last_line xs))
      at-end v = unfold printout in (loaded-zero v (input_of t) taken ∙ beats-end loaded (input_of t).beats xs (no_totals v) last_line h refl)

-- and after any calls that picture has a row for each line of the set
pub each-line-shown : (t : List ℕ) (cs : List Call) → IsOkAnd (status_of (load_set t) (after_all (load_set t) power_on cs)) (λ x. x.count ≡ (lines_of (load_set t)).count)
unfolding status_of
each-line-shown t cs =
    let s = load_set t in
    let st = after_all s power_on cs in
    let sound : is_sound s st ≡ true = ap (λ (x : State). is_sound s (after_all s x cs)) (sym (load-power-on t)) ∙ load-always-sound t cs in
    rw (chosen _ _ _ sound) refl
