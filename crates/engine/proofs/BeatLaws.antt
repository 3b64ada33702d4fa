-- Laws of a beat: what it comes to by its checks, and what it answers and leaves.
use mathlib.Core.Path.{◌≡◌, refl, sym, ap, ◌∙◌}
use mathlib.Core.Bool.{Bool, true, false, ◌&&◌}
use mathlib.Core.List.{List, ◌∷◌}
use Prim.Native.Nat.{ℕ, ◌+◌, ◌-◌, ◌/◌, ◌%◌, ◌^◌, ◌<◌, ◌≤◌}
use native.Mathlib.Omega.{arith}
use native.Mathlib.Numerals.{add-one}
use borrow.Author.Tests.{lt-ltb, le-ltb, lt-leb, le-leb}
use lib.Dec.{eqb, leb}
use Rattle.std.specs.Prelude.{Option, Some, is_some, unwrap_or, None}
use Rattle.engine.specs.Set.{no_lines}
use lib.ListN.{length, get_or, set}
use Rattle.values.specs.Choice.{and-true, chosen, refused}
use Rattle.values.specs.Codes.{short_buffer, wrong_numbers, unsound, faulty_channel}
use Rattle.couplers.specs.Channel.{values_given, channels_kept}
use Rattle.couplers.specs.declared.channel.Channel.{Channel}
use Rattle.couplers.specs.declared.channel.Samples.{Samples}
use Rattle.tokens.specs.Descent.{Answer, good, stop, ◌>>=◌}
use Rattle.engine.specs.declared.one_beat.BeatCode.{BeatCode}
use Rattle.engine.specs.declared.set.Lines.{Lines}
use Rattle.engine.specs.declared.state.State.{State}
use Rattle.tokens.specs.Token.{max_lines}
use Rattle.engine.specs.ActCount.{one_more, counted_acts}
use Rattle.engine.specs.ActCountLaws.{counts-later, no-more}
use Rattle.engine.specs.Turn.{beat_in, Turned, turns_from}
use Rattle.engine.specs.Beat.{buffer_size, are_inputs, Given, samples_in, begun_with, beat_begun, all_turns, beat_known, kept_in}
use Rattle.engine.specs.Held.{few_lines, LeavesBeat}
use Rattle.engine.specs.declared.held.Held.{Held}

-- lines that were read, if they are no more than a set may have
module _ {o : Option Lines} where
  pub none-few : o ≡ None → is_some (few_lines o) ≡ false
  none-few e = rw e refl

  module _ {l : Lines} (e : o ≡ Some l) where
    pub too-many : max_lines < l.count → is_some (few_lines o) ≡ false
    too-many h = rw e (ap is_some (refused (leb l.count max_lines) (Some l) None (lt-leb l.count max_lines h)))

    pub few-all : l.count ≤ max_lines → few_lines o ≡ Some l
    few-all h = rw e (chosen (leb l.count max_lines) (Some l) None (le-leb l.count max_lines h))

module _ (known : Bool) (s : List ℕ) (ls : Option Lines) (st : State) (g : Given) where
  pub lines-unsound : is_some ls ≡ false → beat_known known s ls st g ≡ stop unsound
  unfolding beat_known
  lines-unsound h = simp (beat_known, h)

  module _ (h : is_some ls ≡ true) where
    pub state-unsound : known ≡ false → beat_known known s ls st g ≡ stop unsound
    unfolding beat_known
    state-unsound e = simp (beat_known, h, e)

    module _ (e : known ≡ true) where
      sound : (is_some ls && known) ≡ true
      sound = and-true h e

      pub too_short : length g.buffer < buffer_size → beat_known known s ls st g ≡ stop short_buffer
      unfolding beat_known
      too_short l = chosen _ _ _ sound ∙ chosen _ _ _ (lt-ltb (length g.buffer) buffer_size l)

      module _ (l : buffer_size ≤ length g.buffer) where
        pub no-inputs : are_inputs g.lent ≡ false → beat_known known s ls st g ≡ stop wrong_numbers
        unfolding beat_known
        no-inputs i = chosen _ _ _ sound ∙ refused _ _ _ (le-ltb (length g.buffer) buffer_size l) ∙ refused _ _ _ i

        module _ (i : are_inputs g.lent ≡ true) where
          pub faulty-channel : is_some (samples_in st g) ≡ false → beat_known known s ls st g ≡ stop faulty_channel
          unfolding beat_known
          faulty-channel k = chosen _ _ _ sound ∙ refused _ _ _ (le-ltb (length g.buffer) buffer_size l) ∙ chosen _ _ _ i ∙ refused _ _ _ k

          module _ (k : is_some (samples_in st g) ≡ true) where
            turns-beat : beat_known known s ls st g ≡ (all_turns s (unwrap_or ls no_lines) st g >>= λ t. good (record { world = t.world; entries = beat_in g.automatic ∷ t.entries }))
            unfolding beat_known
            turns-beat = chosen _ _ _ sound ∙ refused _ _ _ (le-ltb (length g.buffer) buffer_size l) ∙ chosen _ _ _ i ∙ chosen _ _ _ k

            -- what the turns left, with the values that the channels gave, is what the beat leaves, but for what is written down
            pub turns-told : (n : Samples) → samples_in st g ≡ Some n → {l : Lines} → unwrap_or ls no_lines ≡ l → (h : Held) (b : List ℕ) {i : Held} {c : List ℕ} {x : BeatCode} →
                LeavesBeat (turns_from s l.numbers st.cancelled g.automatic l.items l.count 0 (begun_with st g.word n.values g.lent)) n.channels h b x i c →
                LeavesBeat (beat_known known s ls st g) (kept_in st g) h b x i c
            unfolding beat_begun
            turns-told n e f h b {i} {c} {x} p =
                let v : n.values ≡ values_given (samples_in st g) = sym (ap values_given e) in
                let w : n.channels ≡ kept_in st g = sym (ap (channels_kept st.channels) e) in
                let q = rw (v, w, ← f) at p in
                rw turns-beat (go (all_turns s (unwrap_or ls no_lines) st g) q)
              where
                go : (y : Answer Turned) → LeavesBeat y (kept_in st g) h b x i c →
                    LeavesBeat (y >>= λ t. good (record { world = t.world; entries = beat_in g.automatic ∷ t.entries })) (kept_in st g) h b x i c
                go (good t) q = q
                go (stop k) q = q

-- so where it comes to the same
pub as-well : (kept : List Channel) (h : Held) (b : List ℕ) {y z : Answer Turned} → y ≡ z → {i : Held} {c : List ℕ} {x : BeatCode} → LeavesBeat y kept h b x i c → LeavesBeat z kept h b x i c
as-well kept h b e p = rw e at p

-- a refusal leaves all as it was
pub refuses : (kept : List Channel) (h : Held) (b : List ℕ) {y : Answer Turned} {k : ℕ} {x : BeatCode} → x ≡ record { code = k; orders = 0; acted = 0 } → y ≡ stop k → LeavesBeat y kept h b x h b
refuses kept h b p e = rw (p, e) (record { value = refl; state_after = refl; orders_after = refl })

-- ---- the counts of acts

module _ (acts : List ℕ) (word : ℕ) where
  pub count_none : acts ≡ counted_acts acts word 0
  unfolding counted_acts
  count_none = refl

  module _ (k rest : ℕ) {x : List ℕ} (e : x ≡ counted_acts acts word k) (r : rest ≡ word / 2 ^ k) where
    pub count_turn : {v : ℕ} → v ≡ one_more (get_or x k 0) (eqb (rest % 2) 1) → set x k v ≡ counted_acts acts word (k + 1)
    unfolding counted_acts
    count_turn q = rw (q, r, e, counts-later acts word k k (omega arith), add-one k)

    -- no bit is left
    pub count-rest : rest ≡ 0 → k ≤ max_lines → x ≡ counted_acts acts word max_lines
    count-rest z l =
        let m : k + (max_lines - k) ≡ max_lines = omega arith in
        e ∙ sym (no-more acts word (max_lines - k) k (sym r ∙ z)) ∙ ap (counted_acts acts word) m
