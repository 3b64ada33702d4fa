-- Laws of what synprint prints: of its size, and that it depends on the first bytes of the input alone. Assumes nothing.
use Rattle.std.specs.Prelude.{◌≡◌, Result, Ok, is_some, Bool, true, false, ◌⊎◌, eqb, leb, get_or, take, drop}
use Rattle.std.proofs.Math.Path.{refl, ap}
use Rattle.std.proofs.Common.{sym, ◌∙◌, inl, inr, arith, add-one, length-append, length-take, length-drop, take_all, take-take, length-take-le, eqb-true, leb-true, leb-false}
use mathlib.Core.List.{List, [], ◌∷◌, ◌++◌}
use Prim.Native.Nat.{ℕ, zero, suc, ◌+◌, ◌-◌, ◌≤◌, ◌<◌}
use Rattle.std.proofs.Math.ListN.{length}
use Rattle.std.proofs.Math.Seq.{take-append-add, split_at}
use Rattle.std.proofs.lemmas.Bool.{eqb-false}
use Rattle.values.specs.Choice.{decide}
use Rattle.values.specs.Codes.{too_long}
use Rattle.values.specs.PutAt.{put_at}
use Rattle.values.specs.PutLaws.{put-length}
use Rattle.tokens.specs.Token.{text_size}
use Rattle.engine.specs.Set.{sound_lines}
use Rattle.text.specs.Byte.{bytes, LF, CR, in_line, run}
use Rattle.text.specs.ByteLaws.{run_on, run-off, run-within}
use Rattle.text.specs.Lines.{without_return}
use Rattle.text.specs.LinesLaws.{run_end, run_more}
use Rattle.text.specs.WordLaws.{same-lengths}
use Rattle.reader.specs.Load.{load_answer, load_set}
use Rattle.transcript.specs.Input.{is_star, input_of}
use Rattle.transcript.specs.StarLaws.{text-none, text-more, text-star, text-last, text-empty}
use Rattle.transcript.specs.Output.{load_line}
use Rattle.transcript.specs.OutputLaws.{load-room}
use Rattle.print.specs.PrintText.{print_text, print_answer, print_buffer}
use Rattle.print.specs.PrintAnswerLaws.{Answers, answers-printed}
use Rattle.loading.specs.LoadAnswers.{code-1, code-line}
use Rattle.loading.specs.LoadedSound.{load-lines-sound}
use Rattle.round_trip.specs.PrintFits.{print-fits}
use Rattle.synprint.specs.Synprint.{loaded_print, synprint, input_size}

module _ (t : List ℕ) where
  pub printed-set : (load_answer t).code ≡ 0 → loaded_print t ≡ print_text (load_set t)
  unfolding loaded_print
  printed-set h = rw (loaded_print, h)

  pub printed-refusal : ((load_answer t).code ≡ 0 → ⊥) → loaded_print t ≡ load_line (load_answer t).code (load_answer t).line
  unfolding loaded_print
  printed-refusal h = go (load_answer t).code refl
    where
      go : (c : ℕ) → (load_answer t).code ≡ c → loaded_print t ≡ load_line (load_answer t).code (load_answer t).line
      go zero e = absurd (h e)
      go (suc c) e = rw (loaded_print, e)

-- ---- its size

pub prints-room : (t : List ℕ) → length (loaded_print t) ≤ text_size
prints-room t =
    decide _ (eqb (load_answer t).code 0)
    (λ e. rw (printed-set t (eqb-true _ 0 e)) (print-fits t))
    (λ e. let r = load-room (load_answer t).code (load_answer t).line in rw (printed-refusal t (eqb-false _ 0 e)) (omega arith))

-- ---- the first bytes of an input

-- the first line of the first n bytes is that of all, if it ends among them,
run_take : (p : ℕ → Bool) (n : ℕ) (t : List ℕ) → run p t < n → run p (take n t) ≡ run p t
run_take p zero t h = absurd (omega arith)
run_take p (suc n) [] h = refl
run_take p (suc n) (b ∷ bs) h =
    decide _ (p b)
    (λ e. let r = run_on p b bs e in rw (run_on p b (take n bs) e, r) (ap suc (run_take p n bs (omega arith))))
    (λ e. rw (run-off p b (take n bs) e, run-off p b bs e))

-- and all of them if it does not
run-all : (p : ℕ → Bool) (n : ℕ) (t : List ℕ) → n ≤ run p t → run p (take n t) ≡ n
unfolding run
run-all p zero t h = refl
run-all p (suc n) [] h = absurd (omega arith)
run-all p (suc n) (b ∷ bs) h =
    decide _ (p b)
    (λ e. let r = run_on p b bs e in rw (run_on p b (take n bs) e) (ap suc (run-all p n bs (omega arith))))
    (λ e. let r = run-off p b bs e in absurd (omega arith))

return-long : (l : List ℕ) → length l ≤ length (without_return l) + 1
unfolding without_return
return-long [] = omega arith
return-long (b ∷ []) = decide _ (eqb b CR) (λ e. rw (without_return, e) (omega arith)) (λ e. rw (without_return, e) (omega arith))
return-long (b ∷ c ∷ bs) = let i = return-long (c ∷ bs) in omega arith

-- the line * has one byte
long-no-star : (l : List ℕ) → 1 < length l → is_star l ≡ false
long-no-star l h = same-lengths l (bytes "*") (λ e. omega (arith, e))

-- the text of the first n bytes is that of all, or both have at least n - 3 bytes
abbrev Alike : ℕ → List ℕ → Type 0
Alike n t = ((input_of (take n t)).text ≡ (input_of t).text) ⊎ ((n ≤ 3 + length (input_of t).text) × (n ≤ 3 + length (input_of (take n t)).text))

take_none : (k : ℕ) → take {A = ℕ} k [] ≡ []
take_none zero = refl
take_none (suc k) = refl

drop-taken : (m n : ℕ) (t : List ℕ) → drop m (take n t) ≡ take (n - m) (drop m t)
drop-taken zero n t = let e : n - 0 ≡ n = omega arith in rw e
drop-taken (suc m) zero t = let e : 0 - suc m ≡ 0 = omega arith in rw e
drop-taken (suc m) (suc n) [] = sym (take_none (suc n - suc m))
drop-taken (suc m) (suc n) (b ∷ bs) = let e : suc n - suc m ≡ n - m = omega arith in rw e (drop-taken m n bs)

-- where the first line, of m bytes, ends among the first n
module _ (n : ℕ) (t : List ℕ) (l : n < length t) (h : run in_line t < n) where
  abbrev m : ℕ
  m = run in_line t

  size-take : length (take n t) ≡ n
  size-take = length-take-le n t (omega arith)

  same_line : take m (take n t) ≡ take m t
  same_line = take-take m n t (omega arith)

  same-run : run in_line (take n t) ≡ m
  same-run = run_take in_line n t h

  same-behind : drop (m + 1) (take n t) ≡ take (n - (m + 1)) (drop (m + 1) t)
  same-behind = drop-taken (m + 1) n t

  line-alike : Alike (n - (m + 1)) (drop (m + 1) t) → Alike n t
  line-alike i =
      let z = size-take in
      let r = same-run in
      decide _ (is_star (without_return (take m t)))
      (λ e. inl (text-none (take n t) (omega arith) (rw (r, same_line) e) ∙ sym (text-none t (omega arith) e)))
      (λ e. both-more e (text-more (take n t) (omega arith) (rw (r, same_line) e)) i)
    where
      both-more : is_star (without_return (take m t)) ≡ false → (input_of (take n t)).text ≡ take (run in_line (take n t)) (take n t) ++ (LF ∷ (input_of (drop (run in_line (take n t) + 1) (take n t))).text) → Alike (n - (m + 1)) (drop (m + 1) t) → Alike n t
      both-more e a (inl q) = inl (a ∙ rw (same-run, same_line, same-behind, q) (sym (text-more t (omega arith) e)))
      both-more e a (inr (p, q)) =
          let b = text-more t (omega arith) e in
          let c = length-append (take m t) (LF ∷ (input_of (drop (m + 1) t)).text) in
          let d = length-append (take m t) (LF ∷ (input_of (take (n - (m + 1)) (drop (m + 1) t))).text) in
          let f = length-take-le m t (omega arith) in
          let g : (input_of (take n t)).text ≡ take m t ++ (LF ∷ (input_of (take (n - (m + 1)) (drop (m + 1) t))).text) = a ∙ rw (same-run, same_line, same-behind) in
          inr (rw b (omega arith), rw g (omega arith))

-- where it does not
module _ (n : ℕ) (t : List ℕ) (l : n < length t) (few : 4 ≤ n) (h : n ≤ run in_line t) where
  cut-long : length (input_of (take n t)).text ≡ n
  cut-long =
      let z = length-take-le n t (omega arith) in
      let r = run-all in_line n t h in
      ap (λ (x : List ℕ). length x) (text-last (take n t) (omega arith) (long-no-star (take n t) (omega arith))) ∙ z

  all-long : n ≤ length (input_of t).text
  all-long =
      let w = run-within in_line t in
      decide _ (leb (length t) (run in_line t))
      (λ e. rw (text-last t (leb-true _ _ e) (long-no-star t (omega arith))) (omega arith))
      (λ e.
      let k = leb-false (length t) (run in_line t) e in
      let z = length-take-le (run in_line t) t w in
      let r = return-long (take (run in_line t) t) in
      let a = text-more t k (long-no-star (without_return (take (run in_line t) t)) (omega arith)) in
      let b = length-append (take (run in_line t) t) (LF ∷ (input_of (drop (run in_line t + 1) t)).text) in
      rw a (omega arith))

  long-alike : Alike n t
  long-alike = let a = cut-long in let b = all-long in inr (omega arith, omega arith)

alike : (k n : ℕ) (t : List ℕ) → length t ≤ k → Alike n t
alike zero n t h = inl (ap (λ (x : List ℕ). (input_of x).text) (take_all n t (omega arith)))
alike (suc k) n t h =
    decide _ (leb (length t) n)
    (λ e. inl (ap (λ (x : List ℕ). (input_of x).text) (take_all n t (leb-true (length t) n e))))
    (λ e. let l = leb-false (length t) n e in
    decide _ (leb n 3)
    (λ f. let s = leb-true n 3 f in inr (omega arith, omega arith))
    (λ f. let s = leb-false n 3 f in
    decide _ (leb n (run in_line t))
    (λ g. long-alike n t l (omega arith) (leb-true n (run in_line t) g))
    (λ g. let d = length-drop (run in_line t + 1) t in line-alike n t l (leb-false n (run in_line t) g) (alike k (n - (run in_line t + 1)) (drop (run in_line t + 1) t) (omega arith)))))

long-print : (t : List ℕ) → text_size < length t → loaded_print t ≡ load_line too_long 0
long-print t h =
    let c = (code-1 t).1 h in
    printed-refusal t (λ e. omega arith) ∙ rw (c, code-line t (omega arith))

-- WHAT IS PRINTED DEPENDS ON THE FIRST BYTES ALONE: synprint of those that are read is synprint of all
pub first-bytes : (t : List ℕ) → synprint (take input_size t) ≡ synprint t
unfolding synprint
first-bytes t = go (alike (length t) input_size t (omega arith))
  where
    go : Alike input_size t → loaded_print (input_of (take input_size t)).text ≡ loaded_print (input_of t).text
    go (inl e) = ap loaded_print e
    go (inr (a, b)) = long-print (input_of (take input_size t)).text (omega arith) ∙ sym (long-print (input_of t).text (omega arith))

-- ---- the text that is loaded stands at the input's start

run-behind : (t : List ℕ) → run in_line t < length t → get_or t (run in_line t) 0 ≡ LF
unfolding run
run-behind [] h = absurd (omega arith)
run-behind (b ∷ bs) h =
    decide _ (eqb b LF)
    (λ e. rw (run_end b bs e) (eqb-true b LF e))
    (λ e. let r = run_more b bs e in rw r (run-behind bs (omega arith)))

-- a line with its LF, and behind it a text that stands at the start of what follows
module _ (a b text : List ℕ) where
  line-begins : take (length text) b ≡ text → take (length (a ++ (LF ∷ text))) (a ++ (LF ∷ b)) ≡ a ++ (LF ∷ text)
  line-begins e = rw (length-append a (LF ∷ text), take-append-add a (LF ∷ b) (suc (length text)), e)

-- the first line, of n bytes, and the text of what is behind it
first-line : (t : List ℕ) (n : ℕ) → n ≡ run in_line t → n < length t → take (length (input_of (drop (n + 1) t)).text) (drop (n + 1) t) ≡ (input_of (drop (n + 1) t)).text →
    take (length (take n t ++ (LF ∷ (input_of (drop (n + 1) t)).text))) t ≡ take n t ++ (LF ∷ (input_of (drop (n + 1) t)).text)
first-line t n e l i =
    let f : get_or t n 0 ≡ LF = rw e (run-behind t (omega arith)) in
    let s : t ≡ take n t ++ (LF ∷ drop (n + 1) t) = split_at t n 0 l ∙ rw (f, add-one n) in
    ap (λ (x : List ℕ). take (length (take n t ++ (LF ∷ (input_of (drop (n + 1) t)).text))) x) s ∙ line-begins (take n t) (drop (n + 1) t) (input_of (drop (n + 1) t)).text i

text-begins : (k : ℕ) (t : List ℕ) → length t ≤ k → take (length (input_of t).text) t ≡ (input_of t).text
text-begins zero [] h = rw text-empty
text-begins zero (b ∷ bs) h = absurd (omega arith)
text-begins (suc k) t h =
    decide _ (leb (length t) (run in_line t))
    (λ e.
    let l = leb-true (length t) (run in_line t) e in
    decide _ (is_star t) (λ s. rw (text-star t l s)) (λ s. rw (text-last t l s) (take_all (length t) t (omega arith))))
    (λ e.
    let l = leb-false (length t) (run in_line t) e in
    let d = length-drop (run in_line t + 1) t in
    decide _ (is_star (without_return (take (run in_line t) t)))
    (λ s. rw (text-none t l s))
    (λ s. rw (text-more t l s) (first-line t (run in_line t) refl l (text-begins k (drop (run in_line t + 1) t) (omega arith)))))

pub text-is : (t : List ℕ) → take (length (input_of t).text) t ≡ (input_of t).text
text-is t = text-begins (length t) t (omega arith)

pub text-within : (t : List ℕ) → length (input_of t).text ≤ length t
text-within t = let e = ap (λ (l : List ℕ). length l) (text-is t) in let m = length-take (length (input_of t).text) t in omega arith

-- ---- what is put

-- of the input t, into a buffer `out` of 4,096 bytes: synprint, with its size x
abbrev pub Said : List ℕ → List ℕ → List ℕ → ℕ → Type 0
Said t out exit x = ((x ≡ length (synprint t)) × (x ≤ length exit)) × (exit ≡ put_at out 0 (synprint t))

-- the set that a text loads prints into such a buffer: it is never refused
module _ (out : List ℕ) (room : length out ≡ text_size) (t : List ℕ) {s : List ℕ} (e : s ≡ load_set t) where
  print-done : Answers s out (Ok (length (print_text s))) (put_at out 0 (print_text s))
  print-done =
      let sound : is_some (sound_lines s) ≡ true = rw e (load-lines-sound t) in
      let fits : length (print_text s) ≤ length out = rw e (let r = print-fits t in omega arith) in
      answers-printed s out sound (omega arith) (length (print_text s)) (put_at out 0 (print_text s)) refl fits refl

  pub never-refused : {p : Result ℕ ℕ} → p ≡ print_answer s out → p ≡ Ok (length (print_text s))
  never-refused f = f ∙ sym print-done.0

module _ (t out exit : List ℕ) (x : ℕ) (room : length out ≡ text_size) where
  said-as : (y : List ℕ) → loaded_print (input_of t).text ≡ y → x ≡ length y → exit ≡ put_at out 0 y → Said t out exit x
  unfolding synprint
  said-as y e f g =
      let r = prints-room (input_of t).text in
      let l : x ≡ length (loaded_print (input_of t).text) = f ∙ ap (λ (z : List ℕ). length z) (sym e) in
      let n : length exit ≡ length out = ap (λ (z : List ℕ). length z) g ∙ put-length y out 0 in
      ((l, omega arith), g ∙ ap (put_at out 0) (sym e))

  -- a refusal
  pub said-refusal : {code line : ℕ} → code ≡ (load_answer (input_of t).text).code → line ≡ (load_answer (input_of t).text).line → (code ≡ 0 → ⊥) → x ≡ length (load_line code line) → exit ≡ put_at out 0 (load_line code line) → Said t out exit x
  said-refusal {code} {line} e f n l p =
      said-as (load_line code line) (printed-refusal (input_of t).text (λ z. n (e ∙ z)) ∙ rw (e, f)) l p

  -- a print
  pub said-print : (s : List ℕ) {p : Result ℕ ℕ} → s ≡ load_set (input_of t).text → (load_answer (input_of t).text).code ≡ 0 → p ≡ print_answer s out → exit ≡ print_buffer s out → p ≡ Ok x → Said t out exit x
  said-print s {p} e c f g h =
      let k = never-refused out room (input_of t).text e f in
      let b = (print-done out room (input_of t).text e).1 in
      let n : x ≡ length (print_text s) = cc in
      said-as (print_text s) (printed-set (input_of t).text c ∙ ap print_text (sym e)) n (g ∙ sym b)
