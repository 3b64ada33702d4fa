-- The tokens of a line's bytes; spaces separate them (document 01, "Lines of text"). Definitions only.
use Rattle.std.specs.Prelude.{Bool, true, false, None, Some, List, [], ◌∷◌, ℕ, zero, suc, length, drop}
use Rattle.text.specs.Byte.{is_space}
use Rattle.text.specs.First.{first_token}

-- the tokens up to the first byte or word that makes none, and whether there is no such byte
pub record Tokens : Type 0 where
  pub list : List ℕ
  pub good : Bool

abbrev pub ending : Bool → Tokens
ending g = record { list = []; good = g }

abbrev pub with_token : ℕ → Tokens → Tokens
with_token t ts = record { list = t ∷ ts.list; good = ts.good }

-- with n bytes left at most
unfoldable pub tokens_from : ℕ → List ℕ → Tokens
tokens_from zero t = ending true
tokens_from (suc n) [] = ending true
tokens_from (suc n) (b ∷ bs) =
    elim (is_space b) [
      | true ↦ tokens_from n bs
      | false ↦
          elim (first_token (b ∷ bs)) [
            | None ↦ ending false
            | Some f ↦ with_token f.token (tokens_from n (drop f.size (b ∷ bs)))
          ]
    ]

unfoldable pub tokens_of : List ℕ → Tokens
tokens_of t = tokens_from (length t) t
