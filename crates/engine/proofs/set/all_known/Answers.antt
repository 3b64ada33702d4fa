-- SetLaws has the turn of the loop.
use Rattle.std.proofs.Common.{◌≡◌, true, Bool, List, ℕ, length, ◌≤◌, sym, ap, ◌∙◌, arith}
use Rattle.tokens.specs.Token.{set_size}
use Rattle.engine.specs.declared.set.Lines.{Lines}
use Rattle.engine.specs.Set.{asked_table, set_table, curves_in, all_known}
use Rattle.engine.proofs.SetLaws.{known-unnamed, known-not, known_on, known-none}
use Rattle.engine.proofs.set.all_known.Goals as goal

-- by the curves of the set
asked : (s : List ℕ) (l : Lines) (curves : List Bool) → curves ≡ curves_in s → all_known s (asked_table true l.numbers curves) l.count 0 ≡ all_known s (set_table s l.numbers) l.count 0
asked s l curves e = ap (λ (cs : List Bool). all_known s (asked_table true l.numbers cs) l.count 0) e

pub line_known-requires : goal.line_known-requires
line_known-requires c =
    let size : length c.args.set.now ≤ set_size = omega arith in
    known-unnamed c.args.set.now _ size c.requires c.loop-k.k (omega arith) c.token_at-start.ensures

pub returns-then-not-line_known : goal.returns-then-not-line_known
returns-then-not-line_known c = sym (known-not _ _ c.loop-k.k _ _ _ c.token_at-start.ensures c.line_known.ensures (omega arith) c.if-not-line_known.true) ∙ c.loop-k.invariant ∙ asked c.args.set.now c.args.lines.now _ c.curves_in-curves.ensures

pub loop-k-preserved : goal.loop-k-preserved
loop-k-preserved c = sym (known_on _ _ c.loop-k.k _ _ _ c.token_at-start.ensures c.line_known.ensures (omega arith) c.if-not-line_known.false) ∙ c.loop-k.invariant

pub returns : goal.returns
returns c = sym (known-none _ _ c.loop-k.k _ (omega arith)) ∙ c.loop-k.invariant ∙ asked c.args.set.now c.args.lines.now _ c.curves_in-curves.ensures
