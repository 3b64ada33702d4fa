-- `draft::add_curve` meets its contract, by its tests: the tokens are looked at alone; EachLineLaws has what fault they have.
use native.Mathlib.Omega.{arith}
use mathlib.Core.Path.{◌≡◌, ap, ◌∙◌}
use mathlib.Core.Bool.{Bool}
use mathlib.Core.List.{List}
use Rattle.std.proofs.lemmas.Result.{err_from_is_err_and}
use Rattle.engine.specs.Set.{is_defined}
use Rattle.reader.specs.Row.{curves_there}
use Rattle.reader.specs.Draft.{kept_in, tokens_to}
use Rattle.reader.proofs.DraftLaws.{tokens-short}
use Rattle.reader.proofs.EachLineLaws.{curve-number-is, curve-told, curve-again, curve-new, with-fault, without-fault}
use Rattle.reader.proofs.draft.add_curve.Goals as goal

pub returns-in_err-f : goal.returns-in_err-f
returns-in_err-f c =
    let a = c.args in
    let f = c.requires.1 in
    let p = err_from_is_err_and c.from_residual.result c.from_residual.ensures.1 in
    let t = curve-told (tokens_to a.s.now a.d.now a.end) f.2 (tokens-short a.s.now a.d.now c.requires.0 a.end f.0 f.1) (kept_in a.s.now a.d.now).curves _ c.in_err-f.ensures.0 in
    (rw (p.1, p.2) (with-fault _ _ _ t.0 t.1), c.curve_alone.ensures.1)

pub returns-then-is_defined : goal.returns-then-is_defined
returns-then-is_defined c =
    let a = c.args in
    let f = c.requires.1 in
    let cs = (kept_in a.s.now a.d.now).curves in
    let u : c.is_defined.result ≡ is_defined (curves_there cs) c.in_ok-f.f.number = c.is_defined.ensures ∙ ap (λ (x : List Bool). is_defined x c.in_ok-f.f.number) (c.curves_there.ensures ∙ c.requires.0.there) in
    (with-fault _ _ _ (curve-again (tokens_to a.s.now a.d.now a.end) f.2 (tokens-short a.s.now a.d.now c.requires.0 a.end f.0 f.1) cs _ c.in_ok-f.ensures.0 _ u c.if-is_defined.true) (λ e. omega arith), c.curve_alone.ensures.1)

pub grow_by_curve-requires : goal.grow_by_curve-requires
grow_by_curve-requires c =
    let a = c.args in
    let f = c.requires.1 in
    let n = curve-number-is (tokens_to a.s.now a.d.now a.end) f.2 (tokens-short a.s.now a.d.now c.requires.0 a.end f.0 f.1) (kept_in a.s.now a.d.now).curves _ c.in_ok-f.ensures.0 in
    (n.1, n.2)

pub returns : goal.returns
returns c =
    let a = c.args in
    let f = c.requires.1 in
    let cs = (kept_in a.s.now a.d.now).curves in
    let short = tokens-short a.s.now a.d.now c.requires.0 a.end f.0 f.1 in
    let u : c.is_defined.result ≡ is_defined (curves_there cs) c.in_ok-f.f.number = c.is_defined.ensures ∙ ap (λ (x : List Bool). is_defined x c.in_ok-f.f.number) (c.curves_there.ensures ∙ c.requires.0.there) in
    let n = curve-number-is (tokens_to a.s.now a.d.now a.end) f.2 short cs _ c.in_ok-f.ensures.0 in
    (rw (c.grow_by_curve.ensures, n.0) (without-fault _ _ (curve-new (tokens_to a.s.now a.d.now a.end) f.2 short cs _ c.in_ok-f.ensures.0 _ u c.if-is_defined.false)), c.curve_alone.ensures.1)
