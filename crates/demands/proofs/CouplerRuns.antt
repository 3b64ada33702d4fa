-- THE 25 BEATS OF A FAULTY CHANNEL, from a load on, whatever the host asks: beats that are refused or undone and the host's calls count nothing. Theorems; assumes nothing.
use Rattle.std.specs.Prelude.{◌≡◌, Bool, false, eqb, ltb, ℤ, pos, Float, length, get_or, set, Ok, Some, Result, Err, is_some, Option}
use Rattle.std.proofs.Math.Path.{refl, sym, ap}
use Rattle.std.proofs.Common.{◌∙◌, arith, get_or-set_same, get_or-set_other, get_or-append-add, eqb-true, le-leb}
use Rattle.std.proofs.Math.Bool.{true, cond}
use mathlib.Core.List.{List, [], ◌∷◌, ◌++◌, append-nil}
use Prim.Native.Nat.{ℕ, zero, suc, ◌+◌, ◌<◌, ◌≤◌}
use Rattle.std.proofs.lemmas.List.{length-replicate}
use Rattle.std.proofs.Math.ListN.{get_or-replicate, get_or-append}
use Rattle.std.proofs.lemmas.Bool.{eqb-false}
use Rattle.values.specs.Choice.{decide, chosen, and-true}
use Rattle.values.specs.Codes.{faulty_channel}
use Rattle.couplers.specs.declared.reading.Reading.{Reading}
use Rattle.couplers.specs.declared.reading.Reading.TheVariants.{Volts}
use Rattle.couplers.specs.declared.channel.Channel.{Channel}
use Rattle.couplers.specs.declared.channel.Sampled.{Sampled}
use Rattle.couplers.specs.Conversion.{thousandths_of}
use Rattle.couplers.specs.Channel.{channel_count, max_faults, sampled, fresh_channel, fresh_channels, no_channel, sampled_at, all_good, values_sampled, channels_sampled, sampled_all, values_given, channels_kept, given_at, kept_at, channel_sampled, value_sampled}
use Rattle.couplers.specs.ChannelLaws.{is_fault, AllFaults, kept_after, length-values, length-channels, samples-length, fault-never-good, serves-25, refuses-the-26th}
use Rattle.tokens.specs.Token.{INA}
use Rattle.tokens.specs.Index.{last_index, is_inside}
use Rattle.working.specs.Variables.{timer_count, bit_count, cell_of, variable_value}
use Rattle.engine.specs.declared.state.State.{State}
use Rattle.engine.specs.Sound.{is_sound}
use Rattle.engine.specs.Beat.{buffer_size, are_inputs, Given, samples_in, beat_begun, beat_answer}
use Rattle.engine.specs.Cells.{input_cells, beat_cells}
use Rattle.engine.specs.InputLaws.{length-inputs}
use Rattle.engine.specs.Timers.{grown_cells}
use Rattle.engine.specs.Calls.{with_locked, with_cancelled, called, locked_call, lock_call, unlock_call, cancel_call}
use Rattle.engine.specs.NamedLine.{found}
use Rattle.soundness.specs.Call.{Call, do_beat, do_lock, do_unlock, do_cancel, do_program_end, do_control_reset}
use Rattle.soundness.specs.ProgramEndLaws.{program-end-keeps}
use Rattle.demands.specs.Run.{Now, Reply, step}
use Rattle.demands.specs.Asks.{Ask, do_load, do_call, Standing, newly_loaded, ask_all, standing}
use Rattle.demands.proofs.AskLaws.{load-clears-channels}
use Rattle.demands.proofs.Refusals.{good-is-all, one-channel-23, refused-keeps-channels, good-keeps-samples, good-beat-samples, control-reset-keeps-channels}
use Rattle.demands.specs.ChannelReadings.{sent_by, counted_of, counted_readings, analogue_in}

-- ---- of all channels, one

-- a list that has what it should up to the place n, and is set there
set_next : {A : Type 0} (d : A) (at : ℕ → A) (l : List A) (n k : ℕ) → n < length l → k < suc n → (k < n → get_or l k d ≡ at k) → get_or (set l n (at n)) k d ≡ at k
set_next d at l n k m h f = go (eqb k n) refl
  where
    go : (b : Bool) → eqb k n ≡ b → get_or (set l n (at n)) k d ≡ at k
    go true e = let p : k ≡ n = eqb-true k n e in rw p (get_or-set_same l n (at n) d m)
    go false e = let p : k ≡ n → ⊥ = eqb-false k n e in get_or-set_other l n k (at n) d p ∙ f (omega arith)

module _ (cs : List Channel) (rs : List Reading) where
  kept-so-far : (n k : ℕ) → n ≤ length cs → k < n → get_or (channels_sampled cs rs n) k no_channel ≡ kept_at cs rs k
  unfolding channels_sampled
  kept-so-far zero k m l = absurd (omega arith)
  kept-so-far (suc n) k m l = set_next no_channel (λ i. kept_at cs rs i) (channels_sampled cs rs n) n k (rw (length-channels cs rs n) (omega arith)) l (λ j. kept-so-far n k (omega arith) j)

  given-so-far : (n k : ℕ) → n ≤ channel_count → k < n → get_or (values_sampled cs rs n) k (pos 0) ≡ given_at cs rs k
  unfolding values_sampled
  given-so-far zero k m l = absurd (omega arith)
  given-so-far (suc n) k m l = set_next (pos 0) (λ i. given_at cs rs i) (values_sampled cs rs n) n k (rw (length-values cs rs n) (omega arith)) l (λ j. given-so-far n k (omega arith) j)

  module _ (h : is_some (sampled_all cs rs) ≡ true) where
    all-values : values_given (sampled_all cs rs) ≡ values_sampled cs rs channel_count
    unfolding sampled_all
    all-values = let e : all_good cs rs channel_count ≡ true = sym (good-is-all cs rs) ∙ h in rw (sampled_all, e)

    all-channels : channels_kept cs (sampled_all cs rs) ≡ channels_sampled cs rs channel_count
    unfolding sampled_all
    all-channels = let e : all_good cs rs channel_count ≡ true = sym (good-is-all cs rs) ∙ h in rw (sampled_all, e)

    -- WHERE NONE REFUSES, EACH OF THE EIGHT GIVES AND KEEPS WHAT IT ALONE MAKES OF ITS READING
    pub value-at : (k : ℕ) → k < channel_count → get_or (values_given (sampled_all cs rs)) k (pos 0) ≡ given_at cs rs k
    value-at k l = rw all-values (given-so-far channel_count k (omega arith) l)

    pub channel-at : (k : ℕ) → k < channel_count → length cs ≡ channel_count → get_or (channels_kept cs (sampled_all cs rs)) k no_channel ≡ kept_at cs rs k
    channel-at k l n = rw all-channels (kept-so-far channel_count k (omega arith) l)

    channels-stay-eight : length cs ≡ channel_count → length (channels_kept cs (sampled_all cs rs)) ≡ channel_count
    channels-stay-eight n = rw all-channels (length-channels cs rs channel_count ∙ n)

-- ---- what a call does to a channel

called-channels : (st : State) (f : Result ℕ ℕ) (change : ℕ → State) → ((k : ℕ) → (change k).channels ≡ st.channels) → (called st f change).state.channels ≡ st.channels
unfolding called
called-channels st (Ok k) change h = h k
called-channels st (Err c) change h = refl

-- A HOST'S CALL KEEPS WHAT THE CHANNELS KEPT
pub lock-keeps-channels : (s : List ℕ) (st : State) (n : ℕ) → (lock_call s st n).state.channels ≡ st.channels
unfolding lock_call locked_call
lock-keeps-channels s st n = called-channels st (found s st n) (λ k. with_locked st k true) (λ k. refl)

pub unlock-keeps-channels : (s : List ℕ) (st : State) (n : ℕ) → (unlock_call s st n).state.channels ≡ st.channels
unfolding unlock_call locked_call
unlock-keeps-channels s st n = called-channels st (found s st n) (λ k. with_locked st k false) (λ k. refl)

pub cancel-keeps-channels : (s : List ℕ) (st : State) (n : ℕ) → (cancel_call s st n).state.channels ≡ st.channels
unfolding cancel_call
cancel-keeps-channels s st n = called-channels st (found s st n) (λ k. with_cancelled st k) (λ k. refl)

-- ---- a run

kept_on : (c : Channel) (xs ys : List Reading) → kept_after c (xs ++ ys) ≡ kept_after (kept_after c xs) ys
unfolding kept_after
kept_on c [] ys = refl
kept_on c (x ∷ xs) ys = kept_on (channel_sampled c (sampled c x)) xs ys

-- faults leave a channel that never was good as it is
stays-fresh : (rs : List Reading) → AllFaults rs → kept_after fresh_channel rs ≡ fresh_channel
unfolding kept_after
stays-fresh [] h = refl
stays-fresh (r ∷ rs) h = ap (λ (y : Option Sampled). kept_after (channel_sampled fresh_channel y) rs) (fault-never-good fresh_channel r h.0 refl) ∙ stays-fresh rs h.1

-- there are eight channels, and channel k keeps what its readings in the beats that ended well leave
abbrev Follows : ℕ → Now State → Type 0
Follows k n = (length n.kept.channels ≡ channel_count) × (get_or n.kept.channels k no_channel ≡ kept_after fresh_channel (counted_readings k n.told))

-- a call that leaves the channels and counts nothing
stays : (k : ℕ) (n : Now State) (cs : List Channel) (x : Call × Reply) → cs ≡ n.kept.channels → counted_of k x.0 x.1.code ≡ [] → Follows k n →
    (length cs ≡ channel_count) × (get_or cs k no_channel ≡ kept_after fresh_channel (counted_readings k (x ∷ n.told)))
unfolding counted_readings
stays k n cs x e c h = rw (e, c) (h.0, h.1 ∙ ap (kept_after fresh_channel) (sym (append-nil (counted_readings k n.told))))

module _ (k : ℕ) (l : k < channel_count) where
  -- a beat that ends well counts its reading
  beat-follows : (s : List ℕ) (n : Now State) (g : Given) (y : Reply) → let b = beat_answer s n.kept g in b.code ≡ 0 → y.code ≡ 0 → Follows k n →
      (length b.state.channels ≡ channel_count) × (get_or b.state.channels k no_channel ≡ kept_after fresh_channel (counted_readings k ((do_beat g, y) ∷ n.told)))
  unfolding kept_after counted_readings
  beat-follows s n g y z q h =
      let cs = n.kept.channels in
      let w = good-beat-samples s n.kept g z in
      rw (q, good-keeps-samples s n.kept g z) (
        channels-stay-eight cs g.readings w h.0,
        channel-at cs g.readings w k l h.0
            ∙ ap (λ (c : Channel). channel_sampled c (sampled c (sent_by k g))) h.1
            ∙ sym (kept_on fresh_channel (counted_readings k n.told) (sent_by k g ∷ [])),
      )

  step_follows : (s : List ℕ) (c : Call) (n : Now State) → Follows k n → Follows k (step s c n)
  unfolding step
  step_follows s (do_beat g) n h =
      let c = (beat_answer s n.kept g).code in
      decide (Follows k (step s (do_beat g) n)) (eqb c 0)
      (λ e. beat-follows s n g _ (eqb-true c 0 e) (eqb-true c 0 e) h)
      (λ e. stays k n _ _ (refused-keeps-channels s n.kept g (eqb-false c 0 e)) (ap (λ (b : Bool). cond b (sent_by k g ∷ []) []) e) h)
  step_follows s (do_lock m) n h = stays k n _ _ (lock-keeps-channels s n.kept m) refl h
  step_follows s (do_unlock m) n h = stays k n _ _ (unlock-keeps-channels s n.kept m) refl h
  step_follows s (do_cancel m) n h = stays k n _ _ (cancel-keeps-channels s n.kept m) refl h
  step_follows s do_program_end n h = stays k n _ _ (program-end-keeps s n.kept).channels refl h
  step_follows s do_control_reset n h = stays k n _ _ (control-reset-keeps-channels s n.kept) refl h

  load-follows : (t : List ℕ) → Follows k (newly_loaded t).since
  unfolding counted_readings kept_after fresh_channels
  load-follows t = rw (load-clears-channels t) (length-replicate channel_count fresh_channel, get_or-replicate channel_count k fresh_channel no_channel l)

  asks-follow : (qs : List Ask) (n : Standing State) → Follows k n.since → Follows k (ask_all qs n).since
  unfolding ask_all
  asks-follow [] n h = h
  asks-follow (do_load t ∷ qs) n h = asks-follow qs (newly_loaded t) (load-follows t)
  asks-follow (do_call c ∷ qs) n h = asks-follow qs _ (step_follows n.set c n.since h)

  -- A CHANNEL KEEPS WHAT ITS READINGS LEAVE in the beats since the load that ended well, whatever else was asked
  pub channel-follows : (t : List ℕ) (qs : List Ask) → get_or (standing t qs).since.kept.channels k no_channel ≡ kept_after fresh_channel (counted_readings k (standing t qs).since.told)
  channel-follows t qs = (asks-follow qs (newly_loaded t) (load-follows t)).1

-- ---- what the lines of the set read

-- $A_INA[k+1] reads the value of channel k
analogue-reads : (r : List ℤ) (word : ℕ) (values lent : List ℤ) (runs : List Bool) (c : List ℤ) (k : ℕ) → k < channel_count → length values ≡ channel_count →
    variable_value r (beat_cells word values lent runs c) INA (k + 1) ≡ Ok (get_or values k (pos 0))
unfolding variable_value is_inside cell_of beat_cells
analogue-reads r word values lent runs c k l n =
    let bits = input_cells word bit_count in
    let rest = lent ++ grown_cells runs c timer_count in
    let inside : is_inside INA (k + 1) ≡ true = and-true (le-leb 1 (k + 1) (omega arith)) (le-leb (k + 1) (last_index INA) (omega arith)) in
    let place : cell_of INA (k + 1) ≡ length bits + k = rw (length-inputs word bit_count) (omega arith) in
    chosen _ _ _ inside
    ∙ ap (λ (v : ℤ). Ok v) (ap (λ (i : ℕ). get_or (bits ++ (values ++ rest)) i (pos 0)) place ∙ get_or-append-add bits (values ++ rest) k (pos 0) ∙ get_or-append values rest (pos 0) k (omega arith))

-- in a beat in which no channel refuses
pub analogue-is-sample : (st : State) (g : Given) (k : ℕ) → k < channel_count → is_some (samples_in st g) ≡ true → analogue_in st g k ≡ Ok (given_at st.channels g.readings k)
unfolding beat_begun
analogue-is-sample st g k l w =
    analogue-reads st.r g.word (values_given (samples_in st g)) g.lent st.runs st.cells k l (samples-length st.channels g.readings)
    ∙ ap (λ (v : ℤ). Ok v) (value-at st.channels g.readings w k l)

-- ---- THE 25 BEATS

-- a load and any asks, then a beat; channel k is faulty in it. Since the load its readings in the beats that ended well were some, then one of v thousandths, then nothing but faults
module _ (t : List ℕ) (qs : List Ask) (g : Given) (k : ℕ) (l : k < channel_count) (fault : is_fault (sent_by k g)) where
  module _ (before rs : List Reading) (x : Float) (v : ℤ) (read : counted_readings k (standing t qs).since.told ≡ before ++ (Volts x ∷ rs)) (worth : thousandths_of x ≡ Some v) (faults : AllFaults rs) where
    kept-now : get_or (standing t qs).since.kept.channels k no_channel ≡ kept_after (kept_after fresh_channel before) (Volts x ∷ rs)
    kept-now = channel-follows k l t qs ∙ ap (kept_after fresh_channel) read ∙ kept_on fresh_channel before (Volts x ∷ rs)

    -- UP TO 24 FAULTY BEATS THAT ENDED WELL: in the next, the 25th or before, the channel does not refuse, and where no other does the lines read its last good value
    pub serves-25-beats : length rs < max_faults → let st = (standing t qs).since.kept in
        (is_some (sampled_at st.channels g.readings k) ≡ true) × (is_some (samples_in st g) ≡ true → analogue_in st g k ≡ Ok v)
    serves-25-beats m =
        let st = (standing t qs).since.kept in
        let e = ap (λ (c : Channel). sampled c (sent_by k g)) kept-now ∙ serves-25 (kept_after fresh_channel before) x v rs (sent_by k g) worth faults fault m in
        (ap (λ (y : Option Sampled). is_some y) e, λ w. analogue-is-sample st g k l w ∙ ap (λ (y : Option Sampled). Ok (value_sampled y)) e)

    -- AFTER 25 THE NEXT BEAT ANSWERS 23, behind 22, 20 and 21
    pub refuses-the-26th-beat : length rs ≡ max_faults → let st = (standing t qs).since.kept in let s = (standing t qs).set in
        is_sound s st ≡ true → ltb (length g.buffer) buffer_size ≡ false → are_inputs g.lent ≡ true → (beat_answer s st g).code ≡ faulty_channel
    refuses-the-26th-beat m sound long inputs =
        one-channel-23 (standing t qs).set (standing t qs).since.kept g sound long inputs k l
        (ap (λ (c : Channel). is_some (sampled c (sent_by k g))) kept-now ∙ refuses-the-26th (kept_after fresh_channel before) x v rs (sent_by k g) worth faults fault m)

  -- A CHANNEL THAT NEVER WAS GOOD GIVES 23 TOO
  pub refuses-never-good : AllFaults (counted_readings k (standing t qs).since.told) → let st = (standing t qs).since.kept in let s = (standing t qs).set in
      is_sound s st ≡ true → ltb (length g.buffer) buffer_size ≡ false → are_inputs g.lent ≡ true → (beat_answer s st g).code ≡ faulty_channel
  refuses-never-good faults sound long inputs =
      one-channel-23 (standing t qs).set (standing t qs).since.kept g sound long inputs k l
      (ap (λ (c : Channel). is_some (sampled c (sent_by k g))) (channel-follows k l t qs ∙ stays-fresh _ faults) ∙ ap (λ (y : Option Sampled). is_some y) (fault-never-good fresh_channel (sent_by k g) fault refl))
