-- What the print answers and writes, for each way through it. Assumes nothing.
use Rattle.std.specs.Prelude.{◌≡◌, Result, Ok, Err, Bool, true, ◌||◌, List, ℕ, ◌≤◌, ◌<◌, ltb, length, is_some}
use Rattle.std.proofs.Math.Path.{sym}
use Rattle.std.proofs.Common.{◌∙◌, lt-ltb, le-ltb}
use Rattle.std.proofs.Math.Bool.{false}
use Rattle.values.specs.Choice.{chosen, refused}
use Rattle.values.specs.Codes.{unsound, short_print}
use Rattle.values.specs.PutAt.{put_at}
use Rattle.tokens.specs.Token.{text_size}
use Rattle.engine.specs.Set.{sound_lines}
use Rattle.print.specs.PrintText.{print_text, print_answer, print_buffer}
use Rattle.print.specs.PrintLaws.{put-start}

module _ (s b : List ℕ) where
  -- what is answered, and what is then in the buffer
  abbrev pub Answers : Result ℕ ℕ → List ℕ → Type 0
  Answers x exit = (x ≡ print_answer s b) × (exit ≡ print_buffer s b)

  -- refused, nothing is written
  refused-so : (code : ℕ) → print_answer s b ≡ Err code → Answers (Err code) b
  unfolding print_buffer
  refused-so code e = (sym e, rw (print_buffer, e))

  pub answers-unsound : is_some (sound_lines s) ≡ false → Answers (Err unsound) b
  unfolding print_answer
  answers-unsound h = refused-so unsound (refused _ _ _ h)

  -- 24: a buffer under 4,096 bytes, or one too short for the print
  abbrev is_short : Bool
  is_short = ltb (length b) text_size || ltb (length b) (length (print_text s))

  module _ (sound : is_some (sound_lines s) ≡ true) where
    short-so : is_short ≡ true → Answers (Err short_print) b
    unfolding print_answer
    short-so h = refused-so short_print (chosen _ _ _ sound ∙ chosen _ _ _ h)

    pub answers-small : length b < text_size → Answers (Err short_print) b
    answers-small l = short-so (rw (lt-ltb (length b) text_size l))

    module _ (l : text_size ≤ length b) where
      pub answers-short : length b < length (print_text s) → Answers (Err short_print) b
      answers-short h = short-so (rw (le-ltb (length b) text_size l) (lt-ltb (length b) (length (print_text s)) h))

      fits-so : length (print_text s) ≤ length b → print_answer s b ≡ Ok (length (print_text s))
      unfolding print_answer
      fits-so h = let n : is_short ≡ false = rw (le-ltb (length b) text_size l) (le-ltb (length b) (length (print_text s)) h) in chosen _ _ _ sound ∙ refused _ _ _ n

      -- the print is put
      pub answers-printed : (n : ℕ) (exit : List ℕ) → n ≡ length (print_text s) → length (print_text s) ≤ length b → exit ≡ put_at b 0 (print_text s) → Answers (Ok n) exit
      unfolding print_buffer
      answers-printed n exit e h p = (rw e (sym (fits-so h)), rw (print_buffer, fits-so h) (p ∙ put-start (print_text s) b h))
