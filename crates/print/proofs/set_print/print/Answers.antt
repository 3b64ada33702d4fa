-- Nothing is written before the print is known to fit.
use Rattle.std.proofs.Common.{◌≡◌, Option, Some, is_some, unwrap_or, Err, true, ◌++◌, ◌≤◌, ℕ, List, length, sym, ap, arith}
use Rattle.values.specs.Codes.{short_print}
use Rattle.tokens.specs.Token.{max_lines, max_curves}
use Rattle.engine.specs.Set.{no_lines, sound_lines, lines_of}
use Rattle.engine.specs.SetCountLaws.{sound-count}
use Rattle.engine.specs.declared.set.Lines.{Lines}
use Rattle.print.specs.PrintText.{line_rows, curve_rows, rows_of, rows_text, print_text}
use Rattle.print.specs.PrintAnswerLaws.{Answers, answers-unsound, answers-small, answers-short, answers-printed}
use Rattle.print.proofs.set_print.print.Goals.{then-buffer-lt-TEXT_SIZE-via-then-buffer-lt-TEXT_SIZE, then-buffer-lt-TEXT_SIZE-via-else-buffer-lt-TEXT_SIZE+then-buffer-size_of}
use Rattle.print.proofs.set_print.print.Goals as goal

-- the set is sound and these are its lines: they are few, and what is put of so many is the print
module _ (s : List ℕ) (l : Lines) (e : Some l ≡ sound_lines s) where
  is_sound : is_some (sound_lines s) ≡ true
  is_sound = ap (λ (o : Option Lines). is_some o) (sym e)

  counts : l.count ≡ (lines_of s).count
  counts = ap (λ (o : Option Lines). (unwrap_or o no_lines).count) e

  few : l.count ≤ max_lines
  few = let n = sound-count s in let c = counts in omega arith

  text-is : rows_text (curve_rows s max_curves 1 ++ line_rows s l.count 0) ≡ print_text s
  unfolding print_text rows_of
  text-is = ap (λ (n : ℕ). rows_text (curve_rows s max_curves 1 ++ line_rows s n 0)) counts

pub returns-in_default : goal.returns-in_default
returns-in_default c =
    let (e, f) = answers-unsound c.args.set.now c.args.buffer.now (ap (λ (o : Option Lines). is_some o) (sym c.in_default.ensures)) in
    record { value = e; buffer_after = f }

pub size_of-requires : goal.size_of-requires
size_of-requires c = few _ _ c.in-Some.ensures

pub returns-then-buffer-lt-TEXT_SIZE : goal.returns-then-buffer-lt-TEXT_SIZE
returns-then-buffer-lt-TEXT_SIZE c =
    let s = c.args.set.now in
    let b = c.args.buffer.now in
    let l = is_sound _ _ c.in-Some.ensures in
    let t = ap length (text-is _ _ c.in-Some.ensures) in
    let (e, f) : Answers s b (Err short_print) b =
    elim c.then-buffer-lt-TEXT_SIZE.branch [
      | then-buffer-lt-TEXT_SIZE-via-then-buffer-lt-TEXT_SIZE w ↦ answers-small s b l w.if-buffer-lt-TEXT_SIZE.true
      | then-buffer-lt-TEXT_SIZE-via-else-buffer-lt-TEXT_SIZE+then-buffer-size_of w ↦ answers-short s b l w.if-buffer-lt-TEXT_SIZE.false (omega (arith, t, w.size_of.ensures, w.if-buffer-size_of.true))
    ] in
    record { value = e; buffer_after = f }

pub put_rows-requires : goal.put_rows-requires
put_rows-requires c = few _ _ c.in-Some.ensures

pub returns : goal.returns
returns c =
    let s = c.args.set.now in
    let t = text-is _ _ c.in-Some.ensures in
    let p = rw t at c.put_rows.ensures.put in
    let z = ap length t in
    let n : c.put_rows.result ≡ length (print_text s) = omega (arith, z, c.put_rows.ensures.behind) in
    let (e, f) = answers-printed s c.args.buffer.now (is_sound _ _ c.in-Some.ensures) c.if-buffer-lt-TEXT_SIZE.false _ _ n (omega (arith, z, c.size_of.ensures)) p in
    record { value = e; buffer_after = f }
