-- Whatever the pieces of the input, the bytes handed over, in order, are those of the definition. Assumes nothing.
use Rattle.std.specs.Prelude.{◌≡◌, refl, false, List, [], ◌∷◌, ◌++◌, ℕ, zero, suc, ◌+◌, min, ◌≤◌, ◌<◌, eqb, leb, ltb, length, take, drop}
use Rattle.std.proofs.Common.{sym, ap, ◌∙◌, append_assoc, append-nil, inl, inr, arith, length-drop, take-append-drop, take-add, ltb-true, ltb-false}
use Rattle.std.proofs.Math.Seq.{take-length}
use Rattle.values.specs.Choice.{decide, either}
use Rattle.values.specs.Numbers.{clash}
use Rattle.text.specs.Byte.{LF, in_line, run}
use Rattle.text.specs.ByteLaws.{run-within}
use Rattle.text.specs.Lines.{before, split, text_lines}
use Rattle.text.specs.LinesLaws.{line-end, line_on, run_end, run_more, lines-last, split-some}
use Rattle.transcript.specs.declared.set_text.Place.{Place}
use Rattle.transcript.specs.declared.session.Session.{Session}
use Rattle.transcript.specs.Totals.{are_fit}
use Rattle.transcript.specs.Output.{out_size, line_room}
use Rattle.transcript.specs.declared.view.View.{View}
use Rattle.transcript.specs.Synrun.{printout}
use Rattle.transcript.specs.declared.intake.Phase.TheVariants.{Over}
use Rattle.transcript.specs.Intake.{with_place, intake_fits}
use Rattle.transcript.specs.IntakeLaws.{FitIntake}
use Rattle.transcript.specs.Machine.{Machine, Fed, begun, is_fit, standing, keeping, chunk, line_end, behind, fed_lines, finished, finished_text, Work, work_from, worked}
use Rattle.transcript.specs.SetText.{kept_size, place_on, star_on}
use Rattle.transcript.specs.HalfLine.{read_on}
use Rattle.transcript.specs.SessionRoomLaws.{fit_parts, fit-whole, LiveTotals, Lives, fit-lives, chunk-lives, line-lives}
use Rattle.transcript.specs.BeatTakenLaws.{taken-some}
use Rattle.sessions.specs.MachineLaws.{Held, chunk-text, chunk-beats, chunk-else, by_phase, fed-line, fed-held, pieces}
use Rattle.sessions.specs.SessionLaws.{prints, over-fed, over-finished, starting, session-prints}

-- ---- no bytes of a line change nothing

same_place : (p : Place) → p.size ≤ kept_size → place_on p [] ≡ p
unfolding place_on star_on
same_place p h =
    let e : min kept_size (p.size + 0) ≡ p.size = omega arith in
    λ i. record { size = e i; start = p.start; star = p.star }

fit-chunk : (m : Machine) → FitIntake m.session.intake → chunk m [] ≡ m
unfolding read_on
fit-chunk m f =
    by_phase (chunk m [] ≡ m) m.session.intake.phase
    (λ e. chunk-text m [] e ∙ ap (λ (p : Place). keeping m m.text (with_place m.session.intake p)) (same_place m.session.intake.place f.size))
    (chunk-beats m [])
    (chunk-else m [])

pub nothing-fed : (m : Machine) → Lives m.session → fed_lines m (text_lines []) ≡ standing m
unfolding split fed_lines
nothing-fed m v = ap standing (fit-chunk m v.intake)

-- ---- the first line of some input

-- a line and its LF
first-line : (t u : List ℕ) → run in_line t < length t → text_lines (take (run in_line t + 1) t ++ u) ≡ take (run in_line t) t ∷ text_lines u
first-line [] u h = absurd (omega arith)
first-line (b ∷ bs) u h =
    decide (text_lines (take (run in_line (b ∷ bs) + 1) (b ∷ bs) ++ u) ≡ take (run in_line (b ∷ bs)) (b ∷ bs) ∷ text_lines u) (eqb b LF)
    (λ e. rw (run_end b bs e) (line-end b u e))
    (λ e. let r = run_more b bs e in
    let a : suc (run in_line bs) + 1 ≡ suc (run in_line bs + 1) = omega arith in
    rw (r, a) (line_on b (take (run in_line bs + 1) bs ++ u) e ∙ ap (before b) (first-line bs u (omega arith))))

-- ---- a piece of input

-- one that lives and is not fit is over
unfit-over : {x : Session} → Lives x → is_fit x ≡ false → x.intake.phase ≡ Over
unfit-over {x} v e = go v.totals
  where
    go : LiveTotals x → x.intake.phase ≡ Over
    go (inl f) = let q = fit-whole x (record { intake = v.intake; totals = f }) in clash (cc)
    go (inr o) = o.0

-- what was taken of t comes to this: the machine and the output of feeding it, behind k bytes taken and o printed
pub record Works (m : Machine) (t : List ℕ) (k : ℕ) (o : List ℕ) (w : Work) : Type 0 where
  pub part : ℕ
  pub taken : w.taken ≡ k + part
  pub within : part ≤ length t
  pub feeds : behind o (fed_lines m (text_lines (take part t))) ≡ record { machine = w.machine; output = w.output }
  pub lives : Lives w.machine.session

-- nothing of it
stands : (m : Machine) (t : List ℕ) (k : ℕ) (o : List ℕ) → Lives m.session → Works m t k o (record { machine = m; taken = k; output = o })
stands m t k o h = record {
  part = 0;
  taken = omega arith;
  within = omega arith;
  feeds = ap (behind o) (nothing-fed m h) ∙ (λ i. record { machine = m; output = append-nil o i });
  lives = h;
}

-- all of it
takes_all : (m : Machine) (t : List ℕ) (k : ℕ) (o : List ℕ) → Lives m.session → length t ≤ run in_line t →
    Works m t k o (record { machine = chunk m (take (run in_line t) t); taken = k + run in_line t; output = o })
unfolding fed_lines
takes_all m t k o h l =
    let w = run-within in_line t in
    let e : run in_line t ≡ length t = omega arith in
    let a : take (run in_line t) t ≡ t = rw e (take-length t) in
    record {
      part = run in_line t;
      taken = refl;
      within = w;
      feeds = rw (a, lines-last t l) (λ i. record { machine = chunk m t; output = append-nil o i });
      lives = chunk-lives m (take (run in_line t) t) h;
    }

-- a line and its LF, and then what is taken of the rest
takes-line : (m : Machine) (t : List ℕ) (k : ℕ) (o : List ℕ) (w : Work) → run in_line t < length t →
    let f = line_end (chunk m (take (run in_line t) t)) in
    Works f.machine (drop (run in_line t + 1) t) (k + (run in_line t + 1)) (o ++ f.output) w → Works m t k o w
takes-line m t k o w l x =
    let f = line_end (chunk m (take (run in_line t) t)) in
    let u = drop (run in_line t + 1) t in
    let d = length-drop (run in_line t + 1) t in
    let n = run in_line t + 1 in
    let a = x.taken in
    let b = x.within in
    let g = fed_lines f.machine (text_lines (take x.part u)) in
    record {
      part = n + x.part;
      taken = omega arith;
      within = omega arith;
      feeds = ap (λ (y : List ℕ). behind o (fed_lines m (text_lines y))) (take-add n x.part t)
          ∙ ap (λ (y : List (List ℕ)). behind o (fed_lines m y)) (first-line t (take x.part u) l)
          ∙ ap (behind o) (fed-line m (take (run in_line t) t) (text_lines (take x.part u)) (split-some LF (take x.part u)))
          ∙ (λ i. record { machine = g.machine; output = sym (append_assoc o f.output g.output) i })
          ∙ x.feeds;
      lives = x.lives;
    }

work-feeds : (n : ℕ) (m : Machine) (t : List ℕ) (k : ℕ) (o : List ℕ) → Lives m.session → Works m t k o (work_from n m t k o)
unfolding work_from
work-feeds zero m t k o h = stands m t k o h
work-feeds (suc n) m t k o h =
    let r = run in_line t in
    let c = chunk m (take r t) in
    either (Works m t k o) (leb (length o + line_room) out_size)
    (λ e. either (Works m t k o) (ltb r (length t))
    (λ g. takes-line m t k o _ (ltb-true r (length t) g)
    (work-feeds n (line_end c).machine (drop (r + 1) t) (k + (r + 1)) (o ++ (line_end c).output) (line-lives c (chunk-lives m (take r t) h))))
    (λ g. takes_all m t k o h (ltb-false r (length t) g)))
    (λ e. stands m t k o h)

-- a piece, and a session that is over
worked-works : (m : Machine) (t : List ℕ) → Lives m.session → Works m t 0 [] (worked m t)
unfolding worked
worked-works m t h = either (Works m t 0 []) (is_fit m.session) (λ e. work-feeds (length t + 1) m t 0 [] h) passed_over
  where
    passed_over : is_fit m.session ≡ false → Works m t 0 [] (record { machine = m; taken = length t; output = [] })
    passed_over e = record { part = length t; taken = omega arith; within = omega arith; feeds = over-fed (text_lines (take (length t) t)) m (unfit-over h e); lives = h }

-- what is taken of a piece is fed, line by line
pub worked-feeds : (m : Machine) (t : List ℕ) → Lives m.session →
    fed_lines m (text_lines (take (worked m t).taken t)) ≡ record { machine = (worked m t).machine; output = (worked m t).output }
worked-feeds m t h =
    let x = worked-works m t h in
    let a = x.taken in
    let e : (worked m t).taken ≡ x.part = omega arith in
    rw e x.feeds

pub worked-lives : (m : Machine) (t : List ℕ) → Lives m.session → Lives (worked m t).machine.session
worked-lives m t h = (worked-works m t h).lives

-- ---- the promise

-- all pieces as one input
abbrev pub joined : List (List ℕ) → List ℕ
joined [] = []
joined (p ∷ ps) = p ++ joined ps

-- the bytes handed over from a machine on, for the pieces left: each piece is worked, again with what was not taken of it, until all is; then the end of input is
pub data Handed : Machine → List (List ℕ) → List ℕ → Type 0 where
  ends : (m : Machine) → Handed m [] (finished_text m)
  next : (m : Machine) (ps : List (List ℕ)) (o : List ℕ) → Handed m ps o → Handed m ([] ∷ ps) o
  works : (m : Machine) (p : List ℕ) (ps : List (List ℕ)) (o : List ℕ) → Handed (worked m p).machine (drop (worked m p).taken p ∷ ps) o → Handed m (p ∷ ps) ((worked m p).output ++ o)

prints-append : (m : Machine) (a b : List ℕ) → Held m → prints m (text_lines (a ++ b)) ≡ (fed_lines m (text_lines a)).output ++ prints (fed_lines m (text_lines a)).machine (text_lines b)
unfolding prints
prints-append m a b h =
    let f = fed_lines m (text_lines a) in
    let g = fed_lines f.machine (text_lines b) in
    ap (λ (y : Fed). y.output ++ finished y.machine) (pieces m a b h) ∙ append_assoc f.output g.output (finished g.machine)

-- the end of input
finish-same : (m : Machine) → Lives m.session → finished_text m ≡ finished m
unfolding finished_text
finish-same m h = either (λ (y : List ℕ). y ≡ finished m) (is_fit m.session) (λ e. refl) (λ e. sym (over-finished m (unfit-over h e)))

finish-prints : (m : Machine) → Lives m.session → finished_text m ≡ prints m (text_lines [])
unfolding prints
finish-prints m h = finish-same m h ∙ sym (ap (λ (y : Fed). y.output ++ finished y.machine) (nothing-fed m h))

-- what a piece prints, and then the rest of it and of the input
worked-prints : (m : Machine) (p rest : List ℕ) → Lives m.session → Held m →
    (worked m p).output ++ prints (worked m p).machine (text_lines (drop (worked m p).taken p ++ rest)) ≡ prints m (text_lines (p ++ rest))
worked-prints m p rest h t =
    let k = (worked m p).taken in
    let on : Fed → List ℕ = λ f. f.output ++ prints f.machine (text_lines (drop k p ++ rest)) in
    sym (ap on (worked-feeds m p h)) ∙ sym (prints-append m (take k p) (drop k p ++ rest) t)
    ∙ ap (λ (y : List ℕ). prints m (text_lines y)) (sym (append_assoc (take k p) (drop k p) rest) ∙ ap (λ (y : List ℕ). y ++ rest) (take-append-drop k p))

worked-held : (m : Machine) (p : List ℕ) → Lives m.session → length (worked m p).machine.text ≡ length m.text
worked-held m p h = ap (λ (y : Fed). length y.machine.text) (sym (worked-feeds m p h)) ∙ fed-held (text_lines (take (worked m p).taken p)) m

-- the bytes handed over are all that is printed
handed-prints : (m : Machine) (ps : List (List ℕ)) (o : List ℕ) → Handed m ps o → Lives m.session → Held m → o ≡ prints m (text_lines (joined ps))
handed-prints m ps o (ends x) h t = finish-prints x h
handed-prints m ps o (next x rest u w) h t = handed-prints x rest u w h t
handed-prints m ps o (works x p rest u w) h t =
    let e = worked-held x p h in
    ap (λ (y : List ℕ). (worked x p).output ++ y) (handed-prints (worked x p).machine (drop (worked x p).taken p ∷ rest) u w (worked-lives x p h) (omega arith))
    ∙ worked-prints x p (joined rest) h t

-- a session at the beginning is fit
begun-lives : (v : View) → Lives (begun v)
unfolding is_fit intake_fits are_fit
begun-lives v = fit-lives (fit_parts (begun v) refl)

-- THE PROMISE: whatever the pieces, and whatever the text and the set held before, the bytes handed over are those of the definition for the whole input
pub whatever-pieces : (v : View) (text set : List ℕ) (ps : List (List ℕ)) (o : List ℕ) → length text ≡ kept_size → Handed (starting v text set) ps o → o ≡ printout v (joined ps)
unfolding prints
whatever-pieces v text set ps o n w = handed-prints (starting v text set) ps o w (begun-lives v) (omega arith) ∙ session-prints v text set (joined ps) n

-- so two ways to cut one input into pieces come to the same bytes
pub same_bytes_lem : (v : View) (text set : List ℕ) (ps qs : List (List ℕ)) (o u : List ℕ) → length text ≡ kept_size → joined ps ≡ joined qs →
    Handed (starting v text set) ps o → Handed (starting v text set) qs u → o ≡ u
same_bytes_lem v text set ps qs o u n e h w = whatever-pieces v text set ps o n h ∙ ap (printout v) e ∙ sym (whatever-pieces v text set qs u n w)

-- ---- and each session comes to an end

piece-ends : (n : ℕ) (m : Machine) (p : List ℕ) (ps : List (List ℕ)) → length p ≤ n → Lives m.session →
    ((x : Machine) → Lives x.session → (o : List ℕ) × Handed x ps o) → (o : List ℕ) × Handed m (p ∷ ps) o
piece-ends zero m [] ps l h rest = let r = rest m h in (r.0, next m ps r.0 r.1)
piece-ends zero m (b ∷ bs) ps l h rest = absurd (omega arith)
piece-ends (suc n) m [] ps l h rest = let r = rest m h in (r.0, next m ps r.0 r.1)
piece-ends (suc n) m (b ∷ bs) ps l h rest =
    let p = b ∷ bs in
    let k = (worked m p).taken in
    let s = taken-some m p (omega arith) in
    let d = length-drop k p in
    let r = piece-ends n (worked m p).machine (drop k p) ps (omega arith) (worked-lives m p h) rest in
    ((worked m p).output ++ r.0, works m p ps r.0 r.1)

pieces_end : (ps : List (List ℕ)) (m : Machine) → Lives m.session → (o : List ℕ) × Handed m ps o
pieces_end [] m h = (finished_text m, ends m)
pieces_end (p ∷ ps) m h = piece-ends (length p) m p ps (omega arith) h (pieces_end ps)

pub hands-over : (v : View) (text set : List ℕ) (ps : List (List ℕ)) → (o : List ℕ) × Handed (starting v text set) ps o
hands-over v text set ps = pieces_end ps (starting v text set) (begun-lives v)
