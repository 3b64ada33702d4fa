-- What the condition gave is written down before what the actions do.
use Rattle.std.proofs.Common.{◌≡◌, true, false, not, [], ◌∷◌, get_or, sym, ◌∙◌, rules}
use Rattle.working.specs.Operators.{is_yes}
use Rattle.engine.specs.Keyword.{tries}
use Rattle.engine.specs.Turn.{try_turn, worked}
use Rattle.engine.proofs.turn.try_line.Goals as goal

pub returns-clause-turned : goal.returns-clause-turned
unfolding try_turn
returns-clause-turned c =
    let v = c.in_ok-worked.worked.value in
    let t : tries c.args.l.keyword (get_or c.args.world.now.memory c.args.k false) ≡ true = sym c.tries_now.ensures ∙ c.if-not-tries_now.false in
    let y : not c.is_equal-v.result ≡ is_yes v = search rules in
    let e = sym c.in_ok-worked.ensures in
    simp (try_turn, t, e) (rw (c.remembers_now.ensures, c.acts_now-2.ensures, y) at (c.act-2.ensures.turned (worked c.args.k (is_yes v) ∷ [])))
