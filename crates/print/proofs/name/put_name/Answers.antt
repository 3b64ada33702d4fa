-- `name::put_name`: each table has the names of its tokens, row by row.
use Rattle.std.proofs.Common.{sym, ap, ◌∙◌, ℕ, List, length, arith}
use Rattle.values.specs.PutAt.{put_at}
use Rattle.print.specs.NameRowsLaws.{sign-row, keyword-row, variable-row, action-row, no_name}
use Rattle.print.proofs.name.put_name.Goals as goal

pub returns-in-0-to-15 : goal.returns-in-0-to-15
returns-in-0-to-15 c =
    let e = sign-row c.args.t (omega arith) in
    record { value = c.put_row.ensures.value ∙ ap (λ (l : List ℕ). length l) (sym e); out_after = c.put_row.ensures.out_after ∙ ap (λ (l : List ℕ). put_at c.args.out.now c.args.at l) (sym e) }

pub returns-in-16-to-31 : goal.returns-in-16-to-31
returns-in-16-to-31 c =
    let e = keyword-row c.args.t (omega arith) (omega arith) in
    record { value = c.put_row-in-16-to-31.ensures.value ∙ ap (λ (l : List ℕ). length l) (sym e); out_after = c.put_row-in-16-to-31.ensures.out_after ∙ ap (λ (l : List ℕ). put_at c.args.out.now c.args.at l) (sym e) }

pub returns-in-32-to-47 : goal.returns-in-32-to-47
returns-in-32-to-47 c =
    let e = variable-row c.args.t (omega arith) (omega arith) in
    record { value = c.put_row-in-32-to-47.ensures.value ∙ ap (λ (l : List ℕ). length l) (sym e); out_after = c.put_row-in-32-to-47.ensures.out_after ∙ ap (λ (l : List ℕ). put_at c.args.out.now c.args.at l) (sym e) }

pub returns-in-48-to-62 : goal.returns-in-48-to-62
returns-in-48-to-62 c =
    let e = action-row c.args.t (omega arith) (omega arith) in
    record { value = c.put_row-in-48-to-62.ensures.value ∙ ap (λ (l : List ℕ). length l) (sym e); out_after = c.put_row-in-48-to-62.ensures.out_after ∙ ap (λ (l : List ℕ). put_at c.args.out.now c.args.at l) (sym e) }

pub returns-in_default : goal.returns-in_default
returns-in_default c =
    let e = no_name c.args.t (omega arith) in
    record { value = ap (λ (l : List ℕ). length l) (sym e); out_after = ap (λ (l : List ℕ). put_at c.args.out.now c.args.at l) (sym e) }
