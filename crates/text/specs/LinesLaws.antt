-- Laws of the lines of a text: its first line and the text behind it, the room that the bodies take, where a line ends, only spaces. Assumes nothing.
use Rattle.std.specs.Prelude.{◌≡◌, refl, Bool, true, false, ◌&&◌, List, [], ◌∷◌, ℕ, zero, suc, ◌+◌, ◌-◌, ◌≤◌, ◌<◌, eqb, ltb, length, take, drop, get_or}
use Rattle.std.proofs.Common.{sym, ap, ◌∙◌, length-take, length-drop, drop_of_length-le, take-take, take_all, length-take-le}
use Rattle.std.specs.List.{list_all}
use native.Mathlib.Omega.{arith}
use Rattle.std.proofs.Math.Numerals.{add-one}
use borrow.Author.Tests.{ltb-true, ltb-false, lt-ltb, le-ltb, eq-eqb, ne_eqb}
use Rattle.values.specs.Choice.{decide, either}
use Rattle.values.specs.Numbers.{clash}
use Rattle.text.specs.Byte.{LF, CR, is_space, in_line, in_body, run}
use Rattle.text.specs.ByteLaws.{run_on, run-off, run-within}
use Rattle.text.specs.Lines.{before, split, text_lines, without_return, without_comment, bodies, first_body, bounds_at, is_blank}

-- ---- the first line

module _ (b : ℕ) (bs : List ℕ) where
  pub line-end : eqb b LF ≡ true → text_lines (b ∷ bs) ≡ [] ∷ text_lines bs
  unfolding split
  line-end h = rw (split, h)

  pub line_on : eqb b LF ≡ false → text_lines (b ∷ bs) ≡ before b (text_lines bs)
  unfolding split
  line_on h = rw (split, h)

  pub run_end : eqb b LF ≡ true → run in_line (b ∷ bs) ≡ 0
  run_end h = run-off in_line b bs (rw h)

  pub run_more : eqb b LF ≡ false → run in_line (b ∷ bs) ≡ suc (run in_line bs)
  run_more h = run_on in_line b bs (rw h)

-- with an LF behind it
pub lines_more : (t : List ℕ) → run in_line t < length t → text_lines t ≡ take (run in_line t) t ∷ text_lines (drop (run in_line t + 1) t)
unfolding split run
lines_more [] h = absurd (omega arith)
lines_more (b ∷ bs) h =
    decide _ (eqb b LF)
    (λ e. rw (line-end b bs e, run_end b bs e))
    (λ e.
    let r = run_more b bs e in
    let i = lines_more bs (omega arith) in
    rw (line_on b bs e, r, i, add-one (suc (run in_line bs)), add-one (run in_line bs)))

-- with none
pub lines-last : (t : List ℕ) → length t ≤ run in_line t → text_lines t ≡ t ∷ []
unfolding split run
lines-last [] h = refl
lines-last (b ∷ bs) h =
    decide _ (eqb b LF)
    (λ e. let r = run_end b bs e in absurd (omega arith))
    (λ e. let r = run_more b bs e in let i = lines-last bs (omega arith) in rw (line_on b bs e, i))

-- ---- its body

-- there is always a part
pub split-some : (e : ℕ) (t : List ℕ) → split e t ≡ [] → ⊥
unfolding split
split-some e [] h = clash (cc)
split-some e (b ∷ bs) h = either (λ (y : List (List ℕ)). y ≡ [] → ⊥) (eqb b e) (λ _ g. clash (cc)) (λ _. some (split e bs)) h
  where
    some : (ls : List (List ℕ)) → before b ls ≡ [] → ⊥
    some [] g = clash (cc)
    some (l ∷ ls) g = clash (cc)

bodies-step : (l : List ℕ) (ls : List (List ℕ)) → (ls ≡ [] → ⊥) → bodies (l ∷ ls) ≡ without_comment (without_return l) ∷ bodies ls
unfolding bodies
bodies-step l [] h = absurd (h refl)
bodies-step l (m ∷ ls) h = refl

module _ (t : List ℕ) where
  pub first_more : run in_line t < length t → first_body t ≡ without_comment (without_return (take (run in_line t) t))
  unfolding first_body
  first_more h = rw (first_body, lt-ltb _ _ h)

  pub first-last : length t ≤ run in_line t → first_body t ≡ without_comment t
  unfolding first_body
  first-last h = rw (first_body, le-ltb _ _ h)

  -- the bodies of a text are the body of its first line and those of the text behind it
  pub bodies-more : run in_line t < length t → bodies (text_lines t) ≡ first_body t ∷ bodies (text_lines (drop (run in_line t + 1) t))
  bodies-more h = rw (lines_more t h, first_more h) (bodies-step (take (run in_line t) t) (text_lines (drop (run in_line t + 1) t)) (split-some LF (drop (run in_line t + 1) t)))

  pub bodies-last : length t ≤ run in_line t → bodies (text_lines t) ≡ first_body t ∷ []
  unfolding bodies
  bodies-last h = rw (lines-last t h, first-last h)

  pub bodies-first :
      bodies (text_lines t)
      ≡ elim (ltb (run in_line t) (length t)) as (λ _. List (List ℕ)) [ true ↦ first_body t ∷ bodies (text_lines (drop (run in_line t + 1) t)) | false ↦ first_body t ∷ [] ]
  bodies-first = go (ltb (run in_line t) (length t)) refl
    where
      go : (x : Bool) → ltb (run in_line t) (length t) ≡ x →
          bodies (text_lines t) ≡ elim x as (λ _. List (List ℕ)) [ true ↦ first_body t ∷ bodies (text_lines (drop (run in_line t + 1) t)) | false ↦ first_body t ∷ [] ]
      go true e = bodies-more (ltb-true _ _ e)
      go false e = bodies-last (ltb-false _ _ e)

-- ---- a body is the first part of its line

part-of-take : (n : ℕ) (t : List ℕ) → take (length (take n t)) t ≡ take n t
part-of-take zero t = refl
part-of-take (suc n) [] = refl
part-of-take (suc n) (b ∷ bs) = ap {B = List ℕ} (λ l. b ∷ l) (part-of-take n bs)

part-of-return : (t : List ℕ) → take (length (without_return t)) t ≡ without_return t
unfolding without_return
part-of-return [] = refl
part-of-return (b ∷ []) = go (eqb b CR) refl
  where
    go : (x : Bool) → eqb b CR ≡ x → take (length (without_return (b ∷ []))) (b ∷ []) ≡ without_return (b ∷ [])
    go true e = rw (without_return, e)
    go false e = rw (without_return, e)
part-of-return (b ∷ c ∷ bs) = ap {B = List ℕ} (λ l. b ∷ l) (part-of-return (c ∷ bs))

part-of-comment : (t : List ℕ) → take (length (without_comment t)) t ≡ without_comment t
unfolding without_comment
part-of-comment t = part-of-take (run in_body t) t

part-within : (a b : List ℕ) → take (length a) b ≡ a → length a ≤ length b
part-within a b h = let e = simp length-take at (ap length h) in omega arith

part-of-part : (a b c : List ℕ) → take (length a) b ≡ a → take (length b) c ≡ b → take (length a) c ≡ a
part-of-part a b c h g = sym (take-take (length a) (length b) c (part-within a b h)) ∙ ap (take (length a)) g ∙ h

module _ (t : List ℕ) where
  -- that of the first line is the first part of the text
  pub body-part : take (length (first_body t)) t ≡ first_body t
  body-part = go (ltb (run in_line t) (length t)) refl
    where
      go : (x : Bool) → ltb (run in_line t) (length t) ≡ x → take (length (first_body t)) t ≡ first_body t
      go true e =
          let l = take (run in_line t) t in
          rw (first_more t (ltb-true _ _ e))
          (part-of-part (without_comment (without_return l)) l t
          (part-of-part (without_comment (without_return l)) (without_return l) l (part-of-comment (without_return l)) (part-of-return l))
          (part-of-take (run in_line t) t))
      go false e = rw (first-last t (ltb-false _ _ e)) (part-of-comment t)

  -- and does not reach beyond the line
  pub body-within : length (first_body t) ≤ run in_line t
  body-within = go (ltb (run in_line t) (length t)) refl
    where
      go : (x : Bool) → ltb (run in_line t) (length t) ≡ x → length (first_body t) ≤ run in_line t
      go true e =
          let l = take (run in_line t) t in
          let h : run in_line t < length t = ltb-true _ _ e in
          let n = length-take-le (run in_line t) t (omega arith) in
          let r = part-within (without_return l) l (part-of-return l) in
          let w = part-within (without_comment (without_return l)) (without_return l) (part-of-comment (without_return l)) in
          rw (first_more t h) (omega arith)
      go false e =
          let h : length t ≤ run in_line t = ltb-false _ _ e in
          let w = part-within (without_comment t) t (part-of-comment t) in
          rw (first-last t h) (omega arith)

-- ---- the room that bodies take, one more each

abbrev pub room : List (List ℕ) → ℕ
room [] = 0
room (b ∷ bs) = length b + 1 + room bs

-- is at most that of the text
room-from : (n : ℕ) (t : List ℕ) → length t ≤ n → room (bodies (text_lines t)) ≤ length t + 1
room-from zero t h =
    let r = run-within in_line t in
    let b = body-within t in
    rw (bodies-last t (omega arith)) (omega arith)
room-from (suc n) t h =
    decide _ (ltb (run in_line t) (length t))
    (λ e.
    let l : run in_line t < length t = ltb-true _ _ e in
    let d = length-drop (run in_line t + 1) t in
    let b = body-within t in
    let i = room-from n (drop (run in_line t + 1) t) (omega arith) in
    rw (bodies-more t l) (omega arith))
    (λ e. let b = body-within t in let r = run-within in_line t in rw (bodies-last t (ltb-false _ _ e)) (omega arith))

pub lines-room : (t : List ℕ) → room (bodies (text_lines t)) ≤ length t + 1
lines-room t = room-from (length t) t (omega arith)

-- ---- where a line ends

pub comment-length : (l : List ℕ) → length (without_comment l) ≡ run in_body l
unfolding without_comment
comment-length l = length-take-le (run in_body l) l (run-within in_body l)

-- a line with a CR at its end, and without
pub return-cut : (l : List ℕ) (k : ℕ) → length l ≡ suc k → get_or l k 0 ≡ CR → take k l ≡ without_return l
unfolding without_return
return-cut [] k h e = absurd (omega arith)
return-cut (b ∷ []) zero h e = rw (without_return, eq-eqb b CR e)
return-cut (b ∷ []) (suc k) h e = absurd (omega arith)
return-cut (b ∷ c ∷ bs) zero h e = absurd (omega arith)
return-cut (b ∷ c ∷ bs) (suc k) h e = ap {B = List ℕ} (λ l. b ∷ l) (return-cut (c ∷ bs) k (omega arith) e)

pub return_kept : (l : List ℕ) (k : ℕ) → length l ≡ suc k → (get_or l k 0 ≡ CR → ⊥) → l ≡ without_return l
unfolding without_return
return_kept [] k h e = absurd (omega arith)
return_kept (b ∷ []) zero h e = rw (without_return, ne_eqb b CR e)
return_kept (b ∷ []) (suc k) h e = absurd (omega arith)
return_kept (b ∷ c ∷ bs) zero h e = absurd (omega arith)
return_kept (b ∷ c ∷ bs) (suc k) h e = ap {B = List ℕ} (λ l. b ∷ l) (return_kept (c ∷ bs) k (omega arith) e)

pub return-within : (l : List ℕ) → length (without_return l) ≤ length l
return-within l = part-within (without_return l) l (part-of-return l)

module _ (t : List ℕ) (at : ℕ) where
  -- what is kept there, of a line or of more, has no body that reaches beyond the end of the text
  pub kept-fits : (kept : List ℕ) (b : ℕ) → b ≡ 0 + run in_body (drop 0 kept) → at ≤ length t → length kept ≤ length (drop at t) → at + b ≤ length t
  kept-fits kept b w l k =
      let d = length-drop at t in
      let r = run-within in_body kept in
      omega arith

  pub bounds-none : length t ≤ at → record { end = at; body = at } ≡ bounds_at at (drop at t)
  unfolding bounds_at first_body without_comment run
  bounds-none h = let z : at + 0 ≡ at = omega arith in rw (drop_of_length-le t h, z)

  -- if the line that begins there ends at e
  module _ (e : ℕ) (h : e ≡ at + run in_line (drop at t)) where
    abbrev pub line : List ℕ
    line = take (e - at) (drop at t)

    line-is : line ≡ take (run in_line (drop at t)) (drop at t)
    line-is = let z : e - at ≡ run in_line (drop at t) = omega arith in rw z

    bounds : (b : ℕ) → b ≡ length (first_body (drop at t)) → record { end = e; body = at + b } ≡ bounds_at at (drop at t)
    unfolding bounds_at
    bounds b g = rw (h, g)

    -- with what is kept of the line
    module _ (kept : List ℕ) (b : ℕ) (w : b ≡ 0 + run in_body (drop 0 kept)) where
      pub bounds-last : at < length t → e ≡ length t → kept ≡ line → record { end = e; body = at + b } ≡ bounds_at at (drop at t)
      bounds-last l g k =
          let u = drop at t in
          let d = length-drop at t in
          let n : length u ≤ run in_line u = omega arith in
          let a = k ∙ line-is ∙ take_all (run in_line u) u n in
          let s = comment-length u in
          let q = ap (λ (x : List ℕ). run in_body x) a in
          bounds b (omega arith ∙ ap length (sym (first-last u n)))

      pub bounds-more : at < length t → (e ≡ length t → ⊥) → kept ≡ without_return line → record { end = e; body = at + b } ≡ bounds_at at (drop at t)
      bounds-more l g k =
          let u = drop at t in
          let d = length-drop at t in
          let r = run-within in_line u in
          let m : run in_line u < length u = omega arith in
          let a : kept ≡ without_return (take (run in_line u) u) = k ∙ ap without_return line-is in
          let s = comment-length (without_return (take (run in_line u) u)) in
          let q = ap (λ (x : List ℕ). run in_body x) a in
          bounds b (omega arith ∙ ap length (sym (first_more u m)))

-- ---- only spaces

pub blank_all : (l : List ℕ) → is_blank l ≡ list_all is_space l
unfolding is_blank
blank_all [] = refl
blank_all (b ∷ bs) = ap (λ (x : Bool). is_space b && x) (blank_all bs)
