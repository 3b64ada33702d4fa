-- A piece of input worked line by line, and the end of input, where the code's tests led.
use mathlib.Core.Path.{◌≡◌, refl, sym, ap, ◌∙◌}
use mathlib.Core.Bool.{true, false}
use mathlib.Core.List.{List, [], ◌++◌}
use Prim.Native.Nat.{ℕ, zero, suc, ◌+◌, ◌-◌, ◌≤◌, ◌<◌}
use native.Mathlib.Omega.{arith}
use borrow.Author.Tests.{le-leb, lt-leb, lt-ltb, le-ltb}
use lib.ListN.{length, take, drop, length-drop}
use lib.Seq.{drop-drop}
use Rattle.text.specs.Byte.{in_line, run}
use Rattle.text.specs.ByteLaws.{run-within}
use Rattle.values.specs.PutAt.{put_at, IsPut}
use Rattle.values.specs.PutLaws.{put_both, put-nothing}
use Rattle.transcript.specs.declared.intake.Arrived.{Arrived}
use Rattle.transcript.specs.declared.intake.Intake.{Intake}
use Rattle.transcript.specs.declared.session.Session.{Session}
use Rattle.transcript.specs.declared.totals.Totals.{Totals}
use Rattle.transcript.specs.Output.{end_room, out_size, last_start, line_room}
use Rattle.transcript.specs.Intake.{bytes_taken, bytes_kept, input_over}
use Rattle.transcript.specs.Machine.{Machine, Fed, Work, with_intake, is_fit, arrival_worked, chunk, line_end, end_after, last_output, finished, finished_text, work_from, worked}
use Rattle.transcript.specs.SessionAnswers.{IsFed, IsWorked, machine_of, session_of, step_answer}
use Rattle.transcript.specs.SessionRoomLaws.{Lives, fit_parts, fit-lives, chunk-lives, line-lives}

-- what is left to say once it is known what a piece came to
pub work-is : {w : Work} {m : Machine} {o b exit : List ℕ} {k q : ℕ} → w ≡ record { machine = m; taken = k; output = o } → IsPut b 0 o exit q → IsWorked w m k b exit q
work-is e p = rw e (record { machine = refl; taken = refl; output = p })

-- and once it was worked
pub step_is : {w : Work} {t s b exit : List ℕ} {y : Session} {k q : ℕ} → IsWorked w (machine_of t s y) k b exit q →
    (record { session = y; taken = k; written = q } ≡ step_answer w) × ((t ≡ w.machine.text) × ((s ≡ w.machine.set) × (exit ≡ put_at b 0 w.output)))
step_is {w} {q = q} f = let h : q ≡ length w.output = let b = f.output.behind in omega arith in rw (f.machine, f.taken, h) (refl, (refl, (refl, f.output.put)))

-- over sessions by other names
pub step-as : (t s input : List ℕ) {x y : Session} → x ≡ y → {u v b exit : List ℕ} {z w : Session} → z ≡ w → {k q : ℕ} → IsWorked (worked (machine_of t s x) input) (machine_of u v w) k b exit q →
    IsWorked (worked (machine_of t s y) input) (machine_of u v z) k b exit q
step-as t s input e f w = rw (← e, f) w

module _ (m : Machine) (t : List ℕ) where
  pub unfit-work : is_fit m.session ≡ false → worked m t ≡ record { machine = m; taken = length t; output = [] }
  unfolding worked
  unfit-work h = simp (worked, h)

  pub fit-work : is_fit m.session ≡ true → work_from (length t + 1) m t 0 [] ≡ worked m t
  unfolding worked
  fit-work h = simp (worked, h)

-- bytes of a line
pub taken_in : (t s : List ℕ) (x : Session) (l : List ℕ) {i : Intake} → i ≡ bytes_taken x.intake l → {u : List ℕ} → u ≡ bytes_kept x.intake t l → machine_of u s (with_intake x i) ≡ chunk (machine_of t s x) l
unfolding chunk
taken_in t s x l e f = rw (e, f)

-- ---- with n lines left at most, k bytes taken, o printed

module _ (m : Machine) (t : List ℕ) (k : ℕ) (o : List ℕ) where
  pub work-full : (n : ℕ) → last_start < length o → work_from n m t k o ≡ record { machine = m; taken = k; output = o }
  unfolding work_from
  work-full zero h = refl
  work-full (suc n) h = simp (work_from, lt-leb (length o + line_room) out_size (omega arith))

  module _ (h : length o ≤ last_start) where
    work-last : (n : ℕ) → 0 < n → length t ≤ run in_line t → work_from n m t k o ≡ record { machine = chunk m (take (run in_line t) t); taken = k + run in_line t; output = o }
    unfolding work_from
    work-last zero p g = absurd (omega arith)
    work-last (suc n) p g = simp (work_from, le-leb (length o + line_room) out_size (omega arith)) (simp (le-ltb (run in_line t) (length t) g))

    work-line : (n : ℕ) → 0 < n → run in_line t < length t → let f = line_end (chunk m (take (run in_line t) t)) in work_from n m t k o ≡ work_from (n - 1) f.machine (drop (run in_line t + 1) t) (k + (run in_line t + 1)) (o ++ f.output)
    unfolding work_from
    work-line zero p g = absurd (omega arith)
    work-line (suc n) p g =
        let e : suc n - 1 ≡ n = omega arith in
        simp (work_from, le-leb (length o + line_room) out_size (omega arith)) (simp (lt-ltb (run in_line t) (length t) g, e))

-- the line at place i of the input ends at place e
module _ (input : List ℕ) (i e : ℕ) (r : e ≡ i + run in_line (drop i input)) (w : i ≤ length input) where
  left_is : length (drop i input) ≡ length input - i
  left_is = length-drop i input

  pub end-within : e ≤ length input
  end-within = omega (arith, left_is, run-within in_line (drop i input))

  run_is : run in_line (drop i input) ≡ e - i
  run_is = omega arith

  module _ (m : Machine) (n : ℕ) (o : List ℕ) (h : length o ≤ last_start) (p : length input < n + i) {c : Machine} (d : c ≡ chunk m (take (e - i) (drop i input))) where
    chunk-is : chunk m (take (run in_line (drop i input)) (drop i input)) ≡ c
    chunk-is = rw run_is (sym d)

    pub input-over : length input ≤ e → work_from n m (drop i input) i o ≡ record { machine = c; taken = e; output = o }
    input-over g = rw (work-last m (drop i input) i o h n (omega arith) (omega (arith, left_is)), chunk-is, ← r)

    pub line-over : e < length input → {m' : Machine} → (line_end c).machine ≡ m' → work_from (n - 1) m' (drop (e + 1) input) (e + 1) (o ++ (line_end c).output) ≡ work_from n m (drop i input) i o
    line-over g {m'} f =
        let a : i + (e - i + 1) ≡ e + 1 = omega arith in
        rw (work-line m (drop i input) i o h n (omega arith) (omega (arith, left_is)), chunk-is, run_is, drop-drop (e - i + 1) i input, a, f)

-- ---- a piece of input that is being worked to come to w: m is the machine so far, i bytes are taken, and what is printed stands in `out`

pub record Going (input : List ℕ) (w : Work) (buffer : List ℕ) (m : Machine) (i : ℕ) (out : List ℕ) (at : ℕ) : Type 0 where
  pub lives : Lives m.session
  pub left : ℕ
  pub printed : List ℕ
  pub enough : length input < left + i
  pub within : i ≤ length input
  pub put : IsPut buffer 0 printed out at
  pub comes : work_from left m (drop i input) i printed ≡ w

pub set_out : (input buffer : List ℕ) (m : Machine) → is_fit m.session ≡ true → Going input (worked m input) buffer m 0 buffer 0
set_out input buffer m h =
    record {
      lives = fit-lives (fit_parts m.session h);
      left = length input + 1;
      printed = [];
      enough = omega arith;
      within = omega arith;
      put = put-nothing;
      comes = fit-work m input h;
    }

module _ {input : List ℕ} {w : Work} {buffer : List ℕ} {m : Machine} {i : ℕ} {out : List ℕ} {at : ℕ} (g : Going input w buffer m i out at) where
  size_is : at ≡ length g.printed
  size_is = let b = g.put.behind in omega arith

  pub going-full : last_start < at → w ≡ record { machine = m; taken = i; output = g.printed }
  going-full h = sym g.comes ∙ work-full m (drop i input) i g.printed g.left (omega (arith, size_is))

  module _ (h : at ≤ last_start) {e : ℕ} (r : e ≡ i + run in_line (drop i input)) {c : Machine} (d : c ≡ chunk m (take (e - i) (drop i input))) where
    short : length g.printed ≤ last_start
    short = omega (arith, size_is)

    pub going-lives : Lives c.session
    going-lives = rw d (chunk-lives m (take (e - i) (drop i input)) g.lives)

    pub going-ends : length input ≤ e → w ≡ record { machine = c; taken = e; output = g.printed }
    going-ends l = sym g.comes ∙ input-over input i e r g.within m g.left g.printed short g.enough d l

    pub going_on : e < length input → {n : Machine} {exit : List ℕ} {q : ℕ} → IsFed (line_end c) n out at exit q → Going input w buffer n (e + 1) exit q
    going_on l f =
        record {
          lives = rw f.machine at (line-lives c going-lives);
          left = g.left - 1;
          printed = g.printed ++ (line_end c).output;
          enough = let n = g.enough in omega arith;
          within = omega arith;
          put = put_both g.put f.output;
          comes = line-over input i e r g.within m g.left g.printed short g.enough d l f.machine ∙ g.comes;
        }

-- ---- the end of input

-- a text that is put at the beginning
pub put_whole : {s a b t : List ℕ} {q : ℕ} → b ≡ a → IsPut s 0 a t q → (q ≡ length b) × (t ≡ put_at s 0 b)
put_whole e h = rw e (let b = h.behind in omega arith, h.put)

-- what came last is put, and the end behind it
pub put-after : {f : Fed} {w : List ℕ} → w ≡ last_output f → {m : Machine} {b mid exit : List ℕ} {p q : ℕ} → IsFed f m b 0 mid p → IsPut mid p (end_after m.set m.session) exit q →
    (q ≡ length w) × (exit ≡ put_at b 0 w)
put-after {f} e g p = put_whole (e ∙ ap (λ (x : Machine). f.output ++ end_after x.set x.session) g.machine) (put_both g.output p)

-- and the end has room there
pub end-has-room : {f : Fed} {m : Machine} {b exit : List ℕ} {p : ℕ} → IsFed f m b 0 exit p → length f.output ≤ line_room → p + end_room ≤ out_size
end-has-room g h = let e = g.output.behind in omega arith

-- of a session by another name
pub end-in : (s : List ℕ) {x y : Session} → x ≡ y → {b exit : List ℕ} {at q : ℕ} → IsPut b at (end_after s x) exit q → IsPut b at (end_after s y) exit q
end-in s e p = rw e at p

module _ (t s : List ℕ) (x : Session) where
  pub finish-unfit : is_fit x ≡ false → finished_text (machine_of t s x) ≡ []
  unfolding finished_text
  finish-unfit h = simp (finished_text, h)

  finish-fit : is_fit x ≡ true → finished_text (machine_of t s x) ≡ last_output (arrival_worked (machine_of t s (session_of (input_over x.intake).intake x.totals)) (input_over x.intake).arrival)
  unfolding finished_text finished
  finish-fit h = simp (finished_text, h)

  pub finish-as : is_fit x ≡ true → {a : Arrived} → a ≡ input_over x.intake → {n : Totals} → n ≡ x.totals → finished_text (machine_of t s x) ≡ last_output (arrival_worked (machine_of t s (session_of a.intake n)) a.arrival)
  finish-as h e k = rw (e, k) (finish-fit h)
