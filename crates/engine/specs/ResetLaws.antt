-- Laws of control reset: what it has not come to is as it was.
use Rattle.std.specs.Prelude.{◌≡◌, refl, Bool, false, List, ℕ, zero, suc, ◌≤◌, get_or}
use Rattle.std.proofs.Common.{◌∙◌, arith, get_or-set_other}
use Rattle.checking.specs.declared.line.Line.{Line}
use Rattle.engine.specs.Calls.{reset_cancelled}

pub reset-keeps : (ls : List Line) (cs : List Bool) (n m : ℕ) → n ≤ m → get_or (reset_cancelled ls cs n) m false ≡ get_or cs m false
unfolding reset_cancelled
reset-keeps ls cs zero m h = refl
reset-keeps ls cs (suc n) m h = get_or-set_other (reset_cancelled ls cs n) n m _ false (λ z. omega arith) ∙ reset-keeps ls cs n m (omega arith)
