-- `draft::add_numbered` meets its contract, by its tests: the tokens are looked at alone; EachLineLaws has what fault they have.
use borrow.Author.Tests.{not-true, not-false}
use native.Mathlib.Omega.{arith}
use mathlib.Core.Path.{◌≡◌, sym, ap, ◌∙◌}
use mathlib.Core.Bool.{Bool, false}
use mathlib.Core.List.{List}
use Prim.Native.Nat.{ℕ}
use Rattle.std.proofs.lemmas.Result.{err_from_is_err_and}
use Rattle.tokens.specs.Token.{set_size}
use Rattle.engine.specs.Set.{asked_table, names_known, rank_in}
use Rattle.reader.specs.Row.{numbers_of}
use Rattle.reader.specs.Load.{curve_table}
use Rattle.reader.specs.Draft.{alone, kept_in, tokens_to}
use Rattle.reader.specs.CheckedLaws.{check-nameless}
use Rattle.reader.proofs.DraftLaws.{tokens-short}
use Rattle.reader.proofs.EachLineLaws.{number_is, fault-told, fault-used, fault-unknown, fault-none, with-fault, without-fault}
use Rattle.reader.proofs.draft.add_numbered.Goals as goal

pub returns-in_err-l : goal.returns-in_err-l
returns-in_err-l c =
    let a = c.args in
    let f = c.requires.1 in
    let p = err_from_is_err_and c.from_residual.result c.from_residual.ensures.1 in
    let t = fault-told (tokens_to a.s.now a.d.now a.end) f.2 (tokens-short a.s.now a.d.now c.requires.0 a.end f.0 f.1) (kept_in a.s.now a.d.now) _ c.in_err-l.ensures.0 in
    (rw (p.1, p.2) (with-fault _ _ _ t.0 t.1), c.line_alone.ensures.1)

pub returns-then-rank_in-lt-LINES : goal.returns-then-rank_in-lt-LINES
returns-then-rank_in-lt-LINES c =
    let a = c.args in
    let f = c.requires.1 in
    let k = kept_in a.s.now a.d.now in
    let ranked : c.rank_in.result ≡ rank_in (numbers_of k.rows) c.in_ok-l.l.number 0 = c.rank_in.ensures ∙ ap (λ (ns : List ℕ). rank_in ns c.in_ok-l.l.number 0) (c.numbers_in-numbers.ensures ∙ c.requires.0.numbers) in
    (with-fault _ _ _ (fault-used (tokens_to a.s.now a.d.now a.end) f.2 (tokens-short a.s.now a.d.now c.requires.0 a.end f.0 f.1) k _ c.in_ok-l.ensures.0 _ ranked c.if-rank_in-lt-LINES.true) (λ e. omega arith), c.line_alone.ensures.1)

pub curves_known-requires : goal.curves_known-requires
curves_known-requires c =
    let a = c.args in
    let f = c.requires.1 in
    let short = tokens-short a.s.now a.d.now c.requires.0 a.end f.0 f.1 in
    (c.line_alone.ensures.1, short, λ n. check-nameless (tokens_to a.s.now a.d.now a.end) f.2 short _ c.in_ok-l.l (sym c.in_ok-l.ensures.0) n)

pub returns-then-not-curves_known : goal.returns-then-not-curves_known
returns-then-not-curves_known c =
    let a = c.args in
    let f = c.requires.1 in
    let k = kept_in a.s.now a.d.now in
    let ts = tokens_to a.s.now a.d.now a.end in
    let ranked : c.rank_in.result ≡ rank_in (numbers_of k.rows) c.in_ok-l.l.number 0 = c.rank_in.ensures ∙ ap (λ (ns : List ℕ). rank_in ns c.in_ok-l.l.number 0) (c.numbers_in-numbers.ensures ∙ c.requires.0.numbers) in
    let known : c.curves_known.result ≡ names_known (alone ts) (curve_table k.curves) set_size 0 = c.curves_known.ensures.0 ∙ ap (λ (cs : List Bool). names_known (alone ts) (asked_table false c.numbers_in-numbers.result cs) set_size 0) (c.curves_there-curves.ensures ∙ c.requires.0.there) in
    (with-fault _ _ _ (fault-unknown ts f.2 (tokens-short a.s.now a.d.now c.requires.0 a.end f.0 f.1) k _ c.in_ok-l.ensures.0 _ ranked c.if-rank_in-lt-LINES.false _ known (not-true _ c.if-not-curves_known.true-raw)) (λ e. omega arith), c.curves_known.ensures.1)

pub returns : goal.returns
returns c =
    let a = c.args in
    let f = c.requires.1 in
    let k = kept_in a.s.now a.d.now in
    let ts = tokens_to a.s.now a.d.now a.end in
    let short = tokens-short a.s.now a.d.now c.requires.0 a.end f.0 f.1 in
    let ranked : c.rank_in.result ≡ rank_in (numbers_of k.rows) c.in_ok-l.l.number 0 = c.rank_in.ensures ∙ ap (λ (ns : List ℕ). rank_in ns c.in_ok-l.l.number 0) (c.numbers_in-numbers.ensures ∙ c.requires.0.numbers) in
    let known : c.curves_known.result ≡ names_known (alone ts) (curve_table k.curves) set_size 0 = c.curves_known.ensures.0 ∙ ap (λ (cs : List Bool). names_known (alone ts) (asked_table false c.numbers_in-numbers.result cs) set_size 0) (c.curves_there-curves.ensures ∙ c.requires.0.there) in (
      rw (c.grow_by.ensures, number_is ts f.2 short k c.in_ok-l.l c.in_ok-l.ensures.0)
          (without-fault _ _ (fault-none ts f.2 short k _ c.in_ok-l.ensures.0 _ ranked c.if-rank_in-lt-LINES.false _ known (not-false _ c.if-not-curves_known.false-raw))),
      c.curves_known.ensures.1,
    )
