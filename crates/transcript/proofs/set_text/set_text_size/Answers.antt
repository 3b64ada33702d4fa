-- By what the line from `at` to `end` is; StarLaws has each turn.
use Rattle.std.proofs.Common.{rules, ◌≡◌, ℕ, List, true, false, ◌+◌, ◌-◌, ◌≤◌, length, take, drop, sym, ap, ◌∙◌, arith, length-drop, drop_of_length-le, drop-drop}
use Rattle.text.specs.Byte.{in_line, run}
use Rattle.text.specs.ByteLaws.{run_fits}
use Rattle.transcript.specs.declared.set_text.Star.{Star}
use Rattle.transcript.specs.declared.set_text.Star.TheVariants.{Empty}
use Rattle.transcript.specs.Input.{input_of}
use Rattle.transcript.specs.SetText.{is_alone, star_on, star_ends}
use Rattle.transcript.specs.StarLaws.{text-empty, size-last-star, size-last, size-star, size-more}
use Rattle.transcript.proofs.set_text.set_text_size.Goals as goal

abbrev text_size : List ℕ → ℕ
text_size t = length (input_of t).text

-- the line from `at` to `end`
module _ (t : List ℕ) {at end : ℕ} (w : at ≤ length t) (n : at + text_size (drop at t) ≡ text_size t) (e : end ≡ at + run in_line (drop at t)) where
  within : (at ≤ end) × (end ≤ length t)
  within = let f = run_fits in_line t at w in (omega arith, omega arith)

  size : end - at ≡ run in_line (drop at t)
  size = omega arith

  module _ {star : Star} (s : star ≡ star_on Empty (take (end - at) (drop at t))) where
    ends-star : end ≡ length t → is_alone star ≡ true → at ≡ text_size t
    ends-star h z = omega (arith, n, length-drop at t, size-last-star (drop at t) (end - at) size s (omega (arith, length-drop at t)) z)

    ends_last : end ≡ length t → is_alone star ≡ false → end ≡ text_size t
    ends_last h z = omega (arith, n, within.0, length-drop at t, size-last (drop at t) (end - at) size s (omega (arith, length-drop at t)) z)

    ends-here : (end ≡ length t → ⊥) → star_ends star ≡ true → at ≡ text_size t
    ends-here h z = omega (arith, n, size-star (drop at t) (end - at) size s (omega (arith, h, within.0, within.1, length-drop at t)) z)

    goes_on_lem : (end ≡ length t → ⊥) → star_ends star ≡ false → (end + 1 ≤ length t) × (end + 1 + text_size (drop (end + 1) t) ≡ text_size t)
    goes_on_lem h z =
        let m = size-more (drop at t) (end - at) size s (omega (arith, h, within.0, within.1, length-drop at t)) z in
        let q : at + (end - at + 1) ≡ end + 1 = omega (arith, within.0) in
        let k : text_size (drop (end - at + 1) (drop at t)) ≡ text_size (drop (end + 1) t) = ap text_size (drop-drop (end - at + 1) at t) ∙ ap (λ (i : ℕ). text_size (drop i t)) q in
        (omega (arith, h, within.1), omega (arith, n, m, k, within.0))

pub slice_bounds-on-end : goal.slice_bounds-on-end
slice_bounds-on-end c = let i = c.loop-at.invariant in let w = within c.args.input.now i.within i.size c.run_end-end.ensures in search (rules, w.0, w.1)

pub returns-then-is_alone : goal.returns-then-is_alone
returns-then-is_alone c = let i = c.loop-at.invariant in ends-star c.args.input.now i.within i.size c.run_end-end.ensures c.on-star.ensures c.if-end-input.true (sym c.is_alone.ensures ∙ c.if-is_alone.true)

pub returns-else-is_alone : goal.returns-else-is_alone
returns-else-is_alone c = let i = c.loop-at.invariant in ends_last c.args.input.now i.within i.size c.run_end-end.ensures c.on-star.ensures c.if-end-input.true (sym c.is_alone.ensures ∙ c.if-is_alone.false)

pub returns-then-ends : goal.returns-then-ends
returns-then-ends c = let i = c.loop-at.invariant in ends-here c.args.input.now i.within i.size c.run_end-end.ensures c.on-star.ensures c.if-end-input.false (sym c.ends.ensures ∙ c.if-ends.true)

pub loop-at-preserved : goal.loop-at-preserved
loop-at-preserved c =
    let i = c.loop-at.invariant in
    let g = goes_on_lem c.args.input.now i.within i.size c.run_end-end.ensures c.on-star.ensures c.if-end-input.false (sym c.ends.ensures ∙ c.if-ends.false) in
    record { within = g.0; size = g.1 }

pub returns : goal.returns
returns c =
    let t = c.args.input.now in
    let at = c.loop-at.at in
    let h : length t ≤ at = omega arith in
    let n : text_size (drop at t) ≡ 0 = ap text_size (drop_of_length-le t h) ∙ ap (λ (l : List ℕ). length l) text-empty in
    omega (arith, c.loop-at.invariant.size, n)
