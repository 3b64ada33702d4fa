-- The bytes that are handed to load are the set text of the input. Assumes nothing.
use Rattle.std.proofs.Common.{◌≡◌, ◌∙◌, sym, ap, arith, ℕ, List, length, take, length-take-le}
use Rattle.transcript.specs.Input.{input_of}
use Rattle.reader.specs.declared.load_text.Loaded.{Loaded}
use Rattle.reader.specs.Load.{load_answer, load_set}
use Rattle.synprint.specs.SynprintLaws.{text-is, text-within}

module _ (t : List ℕ) {n : ℕ} (e : n ≡ length (input_of t).text) where
  handed : take n t ≡ (input_of t).text
  handed = ap (λ (k : ℕ). take k t) e ∙ text-is t

  pub counted : n ≡ length (take n t)
  counted = sym (length-take-le n t (let w = text-within t in omega arith))

  -- so what load answers is what it answers to that text
  pub loaded : {l : Loaded} → l ≡ load_answer (take n t) → l ≡ load_answer (input_of t).text
  loaded h = h ∙ ap load_answer handed

  pub set-loaded : {s : List ℕ} → s ≡ load_set (take n t) → s ≡ load_set (input_of t).text
  set-loaded h = h ∙ ap load_set handed
