-- Laws of loading: what a text comes to, by the tests of the code.
use mathlib.Core.Path.{◌≡◌, refl, sym, ap, ◌∙◌}
use mathlib.Core.List.{List, [], ◌∷◌, ◌++◌}
use Prim.Native.Nat.{ℕ, zero, suc, ◌≤◌, ◌<◌}
use native.Mathlib.Omega.{arith}
use borrow.Author.Tests.{lt-ltb, le-ltb}
use lib.ListN.{length}
use Rattle.values.specs.Codes.{too_long, too_many_lines, not_in_set}
use Rattle.values.specs.Choice.{chosen, refused as not-Chosen}
use Rattle.tokens.specs.Token.{set_size, max_lines, text_size}
use Rattle.engine.specs.Set.{empty_set}
use Rattle.text.specs.TokensLaws.{tokens-real}
use Rattle.text.specs.Lines.{Numbered, token_lines}
use Rattle.std.specs.Prelude.{Ok, Err}
use Rattle.reader.specs.declared.draft.Draft.{Draft}
use Rattle.reader.specs.declared.draft.Refused.{Refused}
use Rattle.reader.specs.declared.load_text.Loaded.{Loaded}
use Rattle.reader.specs.Row.{Row, Kept, nothing, by_number, with_rows, set_of}
use Rattle.reader.specs.Load.{Outcome, taken, refused, row_of, rows_from, first_not, first_unknown, kept_table, named, outcome, answered, load_answer, load_set}
use Rattle.reader.specs.Draft.{names_alone, rows_in, kept_in, Held, Says, Apart}
use Rattle.reader.specs.CheckedLaws.{AllFaultless, first-unknown}
use Rattle.reader.specs.KeptLaws.{taken-so, taken-apart}
use Rattle.reader.specs.RoomLaws.{room_of, text-room}

-- the lines that are taken have no fault
faultless-last : (rs : List Row) (r : Row) → AllFaultless rs → AllFaultless (r ∷ []) → AllFaultless (rs ++ (r ∷ []))
faultless-last [] r h g = g
faultless-last (q ∷ rs) r h g = (h.0, h.1, h.2, faultless-last rs r h.3 g)

taken-faultless : (ls : List Numbered) (q : Kept) → room_of ls ≤ set_size → rows_from nothing ls ≡ taken q → AllFaultless q.rows
unfolding room_of
taken-faultless ls q l h =
    (taken-so (λ k ms. AllFaultless k.rows × (room_of ms ≤ set_size))
    (λ k x ms p c. let r = p.1 in (p.0, omega arith))
    (λ k x ms p c. let r = p.1 in (faultless-last k.rows (row_of x) p.0 (tokens-real x.body, omega arith, c.clean, tt), omega arith))
    ls nothing q (tt, l) h).0

module _ (t : List ℕ) where
  -- a is what loading answers, s its set
  abbrev pub Loads : Loaded → List ℕ → Type 0
  Loads a s = (a ≡ load_answer t) × (s ≡ load_set t)

  loads-refused : (c k : ℕ) → outcome t ≡ refused c k → Loads (answered c k) empty_set
  unfolding load_answer load_set
  loads-refused c k e = (ap (λ (o : Outcome). elim o as (λ _. Loaded) [ taken q ↦ answered 0 0 | refused a b ↦ answered a b ]) (sym e), ap (λ (o : Outcome). elim o as (λ _. List ℕ) [ taken q ↦ set_of q.curves (by_number q.rows) | refused a b ↦ empty_set ]) (sym e))

  loads-taken : (k : Kept) → outcome t ≡ taken k → Loads (answered 0 0) (set_of k.curves (by_number k.rows))
  unfolding load_answer load_set
  loads-taken k e = (ap (λ (o : Outcome). elim o as (λ _. Loaded) [ taken q ↦ answered 0 0 | refused a b ↦ answered a b ]) (sym e), ap (λ (o : Outcome). elim o as (λ _. List ℕ) [ taken q ↦ set_of q.curves (by_number q.rows) | refused a b ↦ empty_set ]) (sym e))

  pub text-long : text_size < length t → Loads (answered too_long 0) empty_set
  unfolding outcome
  text-long h = loads-refused too_long 0 (chosen _ _ _ (lt-ltb text_size (length t) h))

  module _ (h : length t ≤ text_size) where
    pub text-many : max_lines < length (token_lines t) → Loads (answered too_many_lines 0) empty_set
    unfolding outcome
    text-many m = loads-refused too_many_lines 0 (not-Chosen _ _ _ (le-ltb text_size (length t) h) ∙ chosen _ _ _ (lt-ltb max_lines (length (token_lines t)) m))

    module _ (few : length (token_lines t) ≤ max_lines) where
      by_names : outcome t ≡ named (rows_from nothing (token_lines t))
      unfolding outcome
      by_names = not-Chosen _ _ _ (le-ltb text_size (length t) h) ∙ not-Chosen _ _ _ (le-ltb max_lines (length (token_lines t)) few)

      -- a line refuses it
      pub text-faulty : (s : List ℕ) (r : Refused) → Says (rows_from nothing (token_lines t)) s (Err r) → Loads (answered r.code r.line) empty_set
      unfolding named
      text-faulty s r y = go (rows_from nothing (token_lines t)) refl y
        where
          go : (o : Outcome) → rows_from nothing (token_lines t) ≡ o → Says o s (Err r) → Loads (answered r.code r.line) empty_set
          go (taken k) e w = absurd w
          go (refused c k) e w = rw (w.0, w.1) (loads-refused c k (by_names ∙ ap named e))

      -- its lines are taken
      pub text-kept : (s : List ℕ) (d : Draft) → Says (rows_from nothing (token_lines t)) s (Ok d) → (rows_from nothing (token_lines t) ≡ taken (kept_in s d)) × Held s d × Apart (rows_in s d)
      text-kept s d y = go (rows_from nothing (token_lines t)) refl y
        where
          go : (o : Outcome) → rows_from nothing (token_lines t) ≡ o → Says o s (Ok d) → (rows_from nothing (token_lines t) ≡ taken (kept_in s d)) × Held s d × Apart (rows_in s d)
          go (taken k) e w = let q = e ∙ ap taken (sym w.0) in (q, w.1, (taken-apart (token_lines t) (kept_in s d) few q).0)
          go (refused c k) e w = absurd w

      -- k is taken; u is where the first of its lines stands with an unknown name
      module _ (k : Kept) (e : rows_from nothing (token_lines t) ≡ taken k) (u : ℕ) (looked : u ≡ first_not (names_alone (kept_table k)) k.rows) where
        g : u ≡ first_unknown (kept_table k) k.rows
        g = let r = text-room t in looked ∙ first-unknown (kept_table k) k.rows (taken-faultless (token_lines t) k (omega arith) e)

        pub text-unknown : (u ≡ 0 → ⊥) → Loads (answered not_in_set u) empty_set
        unfolding named
        text-unknown f = go u f (sym g)
          where
            go : (v : ℕ) → (v ≡ 0 → ⊥) → first_unknown (kept_table k) k.rows ≡ v → Loads (answered not_in_set v) empty_set
            go zero f z = absurd (f refl)
            go (suc j) f z = loads-refused not_in_set (suc j) (by_names ∙ ap named e ∙ ap (λ (v : ℕ). elim v as (λ _. Outcome) [ zero ↦ taken k | suc j ↦ refused not_in_set (suc j) ]) z)

        pub text-good : u ≡ 0 → (s : List ℕ) → s ≡ with_rows empty_set k.curves (by_number k.rows) → Loads (answered 0 0) s
        unfolding named set_of
        text-good z s w = rw w (loads-taken k (by_names ∙ ap named e ∙ ap (λ (v : ℕ). elim v as (λ _. Outcome) [ zero ↦ taken k | suc j ↦ refused not_in_set (suc j) ]) (sym g ∙ z)))
