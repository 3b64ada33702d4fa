-- How much of a piece a step takes, how much it writes, and where it leads. Assumes nothing.
use mathlib.Core.Path.{◌≡◌, ap, ◌∙◌}
use mathlib.Core.List.{List}
use Prim.Native.Nat.{ℕ, ◌≤◌}
use native.Mathlib.Omega.{arith}
use lib.ListN.{length, drop}
use Rattle.transcript.specs.declared.session.Stepped.{Stepped}
use Rattle.transcript.specs.Machine.{Machine, worked, finished_text, Work, LeadsTo, goes_on}
use Rattle.transcript.specs.Output.{out_size}
use Rattle.transcript.specs.SessionAnswers.{machine_of, step_answer}
use Rattle.transcript.specs.SessionRoomLaws.{finished-text-room}
use Rattle.values.specs.PutAt.{put_at}
use Rattle.values.specs.PutLaws.{put-length}
use Rattle.transcript.specs.BeatTakenLaws.{worked-room, taken-within, taken-some}

module _ (m : Machine) (t : List ℕ) {x : Stepped} (w : x ≡ step_answer (worked m t)) where
  pub written-room : (buffer : List ℕ) {exit : List ℕ} → exit ≡ put_at buffer 0 (worked m t).output → length buffer ≡ out_size → x.written ≤ length exit
  written-room buffer o n =
      let r = worked-room m t in
      let e = ap (λ (y : Stepped). y.written) w in
      let l = ap length o ∙ put-length (worked m t).output buffer 0 in
      omega arith

  pub no-more : x.taken ≤ length t
  no-more = let r = taken-within m t in let e = ap (λ (y : Stepped). y.taken) w in omega arith

  pub some : 1 ≤ length t → 1 ≤ x.taken
  some h = let r = taken-some m t h in let e = ap (λ (y : Stepped). y.taken) w in omega arith

  -- it leads on from before it
  pub step-leads : (z : Machine) {text set : List ℕ} → text ≡ (worked m t).machine.text → set ≡ (worked m t).machine.set → LeadsTo (machine_of text set x.session) (drop x.taken t) z → LeadsTo m t z
  step-leads z {text} {set} e s l = goes_on m z t (onward (worked m t) w e s)
    where
      onward : (w : Work) → x ≡ step_answer w → text ≡ w.machine.text → set ≡ w.machine.set → LeadsTo w.machine (drop w.taken t) z
      onward w e t s = rw (e, t, s) at l

-- what the end of input prints fits too
pub end-room : (m : Machine) (buffer : List ℕ) {n : ℕ} {exit : List ℕ} → n ≡ length (finished_text m) → exit ≡ put_at buffer 0 (finished_text m) → length buffer ≡ out_size → n ≤ length exit
end-room m buffer {n} {exit} e o b = let r = finished-text-room m in let l = ap length o ∙ put-length (finished_text m) buffer 0 in omega arith
