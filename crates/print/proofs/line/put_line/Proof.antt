-- `line::put_line` meets its contract: in the loop the line from `p` on, put at `q`, comes to what all of it comes to.
use borrow.Author.Rules.{rules}
use native.Mathlib.Omega.{arith}
use mathlib.Core.Path.{◌≡◌, refl, ◌∙◌}
use mathlib.Core.List.{List, ◌++◌}
use Prim.Native.Nat.{ℕ, ◌+◌, ◌-◌, ◌*◌, ◌≤◌}
use lib.ListN.{length, get_or}
use Rattle.values.specs.PutAt.{IsPut}
use Rattle.values.specs.PutLaws.{Left, left-all, left_after, left-none}
use Rattle.tokens.specs.Token.{END}
use Rattle.tokens.specs.BetweenLaws.{lies-inside}
use Rattle.print.specs.TokenText.{token_text, gap, line_text}
use Rattle.print.specs.PrintText.{row_at}
use Rattle.print.specs.PrintLaws.{line-goes, line-over, line-at-room}
use Rattle.print.specs.PrintRoomLaws.{token_room}
use Rattle.print.proofs.line.put_line.Statement.{statement}
use Rattle.print.proofs.line.put_line.Tie as tie

abbrev invariant-loop : tie.invariant-loop-t
invariant-loop set start out₀ at p₀ q₀ t₀ out p q t =
    Left out₀ at (line_text (row_at set start)) out q (line_text (row_at set p)) × (length out ≡ length out₀) × (t ≡ get_or set p 0)

abbrev decreases-loop : tie.decreases-loop-t
decreases-loop set start out₀ at p₀ q₀ t₀ out p q t = length set - p

-- while something of the line is left, the place in the buffer is near
near : (s b out rest : List ℕ) (start at q : ℕ) → Left b at (line_text (row_at s start)) out q rest → q ≤ at + (token_room + 1) * length s
near s b out rest start at q l = let r = line-at-room s start in let e = l.behind in omega arith

-- behind the token at p what stands before the next is left, and the line from there on
token-put : (s : List ℕ) (p : ℕ) {b whole out exit : List ℕ} {at q end t u : ℕ} → Left b at whole out q (line_text (row_at s p)) → t ≡ get_or s p 0 → u ≡ get_or s (p + 1) 0 → (t ≡ END → ⊥) →
    IsPut out q (token_text t) exit end → Left b at whole exit end (gap t u ++ line_text (row_at s (p + 1)))
token-put s p {t = t} {u = u} l e f n i = left_after (gap t u ++ line_text (row_at s (p + 1))) l (line-goes s p e f n) i

pub put_line_spec : {M : Type 1} → statement M
put_line_spec =
    tie.close
    (tie.spec
    invariant-loop
    decreases-loop
    (λ c κs. search rules)
    (λ c. (left-all refl, refl, c.token_at-t.ensures))
    (λ c κs.
    let b = c.before.before in
    let a = b.args in
    omega (arith, near a.set.now _ _ _ a.start a.at b.loop-t.q b.loop-t.invariant.0))
    (λ c.
    let l = c.before.before.before.before.before in
    let b = l.before in
    let a = b.args in
    omega (arith, lies-inside a.set.now b.loop-t.p b.loop-t.invariant.2 l.loop-t-test.true))
    (λ c κs. search rules)
    (λ c κs.
    let k = c.before.before.before.before.before in
    let l = k.before.before in
    let b = l.before in
    let a = b.args in
    omega (arith, near a.set.now _ _ _ a.start a.at _ (token-put a.set.now b.loop-t.p b.loop-t.invariant.0 b.loop-t.invariant.2 c.token_at-u.ensures l.loop-t-test.true k.put_token-end.ensures)))
    (λ c.
    let l = c.before.before.before.before.before.before.before.before.before.before in
    let b = l.before in
    let a = b.args in
    omega (arith, lies-inside a.set.now b.loop-t.p b.loop-t.invariant.2 l.loop-t-test.true))
    (λ c.
    let l = c.before.before.before.before.before.before.before.before.before.before in
    let b = l.before in
    let a = b.args in
    omega (arith, lies-inside a.set.now b.loop-t.p b.loop-t.invariant.2 l.loop-t-test.true))
    (λ c.
    let g = c.before.before in
    let u = g.before.before in
    let k = u.before.before.before.before in
    let l = k.before.before in
    let b = l.before in
    let a = b.args in
    let s = a.set.now in (
      left_after (line_text (row_at s (b.loop-t.p + 1))) (token-put s b.loop-t.p b.loop-t.invariant.0 b.loop-t.invariant.2 u.token_at-u.ensures l.loop-t-test.true k.put_token-end.ensures) refl g.put_gap-q.ensures,
      g.put_gap-q.auto.out ∙ k.put_token-end.auto.out ∙ b.loop-t.invariant.1,
      u.token_at-u.ensures,
    ))
    (λ c. c.loop-t.invariant.1)
    (λ c.
    let b = c.before in
    let a = b.args in
    let s = a.set.now in (
      left-none b.loop-t.invariant.0 (line-over s b.loop-t.p b.loop-t.invariant.2 c.loop-t-test.false),
      omega (arith, near s _ _ _ a.start a.at b.loop-t.q b.loop-t.invariant.0),
    )))
