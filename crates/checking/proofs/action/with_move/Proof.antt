-- `action::with_move` meets its contract: no move, an axis moved again, or a new one.
use borrow.Author.Rules.{rules}
use borrow.Author.Tests.{not-true, not-false}
use mathlib.Core.Path.{◌≡◌, sym, ap, ◌∙◌}
use mathlib.Core.Bool.{true}
use Prim.Native.Nat.{ℕ, ◌+◌, ◌*◌, ◌%◌, ◌^◌, ◌≤◌}
use native.Mathlib.Omega.{arith}
use native.Mathlib.Nat.{one-mul}
use lib.Pow.{pow_mono, shl_exact}
use Rattle.tokens.specs.Token.{is_move}
use Rattle.tokens.specs.Descent.{index_at}
use Rattle.checking.specs.SightNumber.{with_move}
use Rattle.checking.proofs.MoveLaws.{with_none, with-again, with_first}
use Rattle.checking.proofs.action.with_move.Statement.{statement}
use Rattle.checking.proofs.action.with_move.Tie as tie

-- the word is a move, and its axis is small
module _ (c : tie.After-index_at-axis) where
  abbrev begun : tie.After-is_move
  begun = c.before.before.before

  moves : is_move begun.args.w ≡ true
  moves = sym begun.is_move.ensures ∙ not-false _ c.if-not-is_move.false-raw

  small : c.index_at-axis.result ≤ 6
  small = rw c.index_at-axis.ensures (begun.requires.1 moves)

  bit : (1 * 2 ^ c.index_at-axis.result) % 2 ^ 64 ≡ 2 ^ c.index_at-axis.result
  bit = shl_exact {a = 1} 1 c.index_at-axis.result 64 (omega arith) (omega (arith, small)) ∙ one-mul _

  -- of the axis that the word has behind it
  of-index : with_move begun.args.moved begun.args.w c.index_at-axis.result ≡ with_move begun.args.moved begun.args.w (index_at begun.args.set.now begun.args.w begun.args.at)
  of-index = ap (with_move begun.args.moved begun.args.w) c.index_at-axis.ensures

pub with_move_spec : {M : Type 1} → statement M
with_move_spec =
    tie.close
    (tie.spec
    (λ c κs. search rules)
    (λ c. with_none _ _ _ (sym c.is_move.ensures ∙ not-true _ c.if-not-is_move.true-raw))
    (λ c κs. search rules)
    (λ c. search rules)
    (λ c. omega (arith, small c))
    (λ c. with-again _ _ _ (moves c.before) c.if-moved-axis-eq1.true ∙ of-index c.before)
    (λ c. search rules)
    (λ c. omega (arith, small c.before))
    (λ c. record { fits = omega (arith, bit c.before, pow_mono (small c.before), (begun c.before).requires.0) })
    (λ c. ap (λ (b : ℕ). (begun c.before).before.args.moved + b) (bit c.before) ∙ with_first _ _ _ (moves c.before) c.if-moved-axis-eq1.false ∙ of-index c.before))
