-- How much of a piece of input is taken, and how much is printed of it, by any session, fit or not. Assumes nothing.
use Rattle.std.specs.Prelude.{List, [], ◌++◌, ℕ, zero, suc, ◌+◌, ◌≤◌, leb, ltb, length, take, drop}
use Rattle.std.proofs.Common.{add-one, arith, length-append, length-drop, leb-true, ltb-true, ltb-false}
use Rattle.values.specs.Choice.{either}
use Rattle.text.specs.Byte.{in_line, run}
use Rattle.text.specs.ByteLaws.{run-within}
use Rattle.transcript.specs.Machine.{Machine, is_fit, chunk, line_end, Work, work_from, worked}
use Rattle.transcript.specs.Output.{out_size, line_room}
use Rattle.transcript.specs.SessionRoomLaws.{line-room}

-- what is printed of a piece has room where output is handed over in
work-room : (n : ℕ) (m : Machine) (t : List ℕ) (k : ℕ) (o : List ℕ) → length o ≤ out_size → length (work_from n m t k o).output ≤ out_size
unfolding work_from
work-room zero m t k o h = h
work-room (suc n) m t k o h =
    let P : Work → Type 0 = λ w. length w.output ≤ out_size in
    let r = run in_line t in
    let c = chunk m (take r t) in
    let a = line-room c in
    let b = length-append o (line_end c).output in
    either P (leb (length o + line_room) out_size)
    (λ e. let l = leb-true (length o + line_room) out_size e in
    either P (ltb r (length t)) (λ g. work-room n (line_end c).machine (drop (r + 1) t) (k + (r + 1)) (o ++ (line_end c).output) (omega arith)) (λ g. h))
    (λ e. h)

pub worked-room : (m : Machine) (t : List ℕ) → length (worked m t).output ≤ out_size
unfolding worked
worked-room m t = either (λ (w : Work). length w.output ≤ out_size) (is_fit m.session) (λ e. work-room (length t + 1) m t 0 [] (omega arith)) (λ e. omega arith)

-- no more is taken than there is
work-most : (n : ℕ) (m : Machine) (t : List ℕ) (k : ℕ) (o : List ℕ) → (work_from n m t k o).taken ≤ k + length t
unfolding work_from
work-most zero m t k o = omega arith
work-most (suc n) m t k o =
    let P : Work → Type 0 = λ w. w.taken ≤ k + length t in
    let r = run in_line t in
    let c = chunk m (take r t) in
    let w = run-within in_line t in
    either P (leb (length o + line_room) out_size)
    (λ e.
    either P (ltb r (length t))
    (λ g. let l = ltb-true r (length t) g in
    let d = length-drop (r + 1) t in
    let h = work-most n (line_end c).machine (drop (r + 1) t) (k + (r + 1)) (o ++ (line_end c).output) in omega arith)
    (λ g. omega arith))
    (λ e. omega arith)

pub taken-within : (m : Machine) (t : List ℕ) → (worked m t).taken ≤ length t
unfolding worked
taken-within m t = either (λ (w : Work). w.taken ≤ length t) (is_fit m.session) (λ e. let h = work-most (length t + 1) m t 0 [] in omega arith) (λ e. omega arith)

-- and something of a piece that is not empty
work-least : (n : ℕ) (m : Machine) (t : List ℕ) (k : ℕ) (o : List ℕ) → k ≤ (work_from n m t k o).taken
unfolding work_from
work-least zero m t k o = omega arith
work-least (suc n) m t k o =
    let P : Work → Type 0 = λ w. k ≤ w.taken in
    let r = run in_line t in
    let c = chunk m (take r t) in
    either P (leb (length o + line_room) out_size)
    (λ e.
    either P (ltb r (length t))
    (λ g. let h = work-least n (line_end c).machine (drop (r + 1) t) (k + (r + 1)) (o ++ (line_end c).output) in omega arith)
    (λ g. omega arith))
    (λ e. omega arith)

work-some : (n : ℕ) (m : Machine) (t : List ℕ) → 1 ≤ length t → 1 ≤ (work_from (suc n) m t 0 []).taken
unfolding work_from
work-some n m t h =
    let r = run in_line t in
    let c = chunk m (take r t) in
    either (λ (w : Work). 1 ≤ w.taken) (ltb r (length t))
    (λ g. let l = work-least n (line_end c).machine (drop (r + 1) t) (0 + (r + 1)) ([] ++ (line_end c).output) in omega arith)
    (λ g. let l = ltb-false r (length t) g in omega arith)

pub taken-some : (m : Machine) (t : List ℕ) → 1 ≤ length t → 1 ≤ (worked m t).taken
unfolding worked
taken-some m t h = either (λ (w : Work). 1 ≤ w.taken) (is_fit m.session) (λ e. rw (add-one (length t)) (work-some (length t) m t h)) (λ e. h)
