-- Laws of the host's calls: what a call answers, and the turns of the loops of program end and control reset.
use mathlib.Core.Path.{◌≡◌, sym}
use mathlib.Core.Bool.{Bool, true, false, or-true, or-false}
use mathlib.Core.List.{List}
use Prim.Native.Nat.{ℕ, ◌+◌}
use native.Mathlib.Omega.{arith}
use native.Mathlib.Numerals.{add-one}
use lib.ListN.{get_or, set}
use lib.Seq.{set-get_or}
use Rattle.checking.specs.declared.line.Line.{Line}
use Rattle.engine.specs.Set.{no_line}
use Rattle.engine.specs.ActCount.{reset_acts}
use Rattle.engine.specs.ActCountLaws.{recounts-later}
use Rattle.engine.specs.ResetLaws.{reset-keeps}
use Rattle.engine.specs.Calls.{reset_cancelled}

-- ---- control reset

module _ (ls : List Line) (cs : List Bool) where
  module _ (k : ℕ) (x : List Bool) (e : x ≡ reset_cancelled ls cs k) where
    pub reset-id : (get_or ls k no_line).ids ≡ false → set x k true ≡ reset_cancelled ls cs (k + 1)
    unfolding reset_cancelled
    reset-id z = rw (e, add-one k, z, or-true)

    pub reset-ids : (get_or ls k no_line).ids ≡ true → x ≡ reset_cancelled ls cs (k + 1)
    unfolding reset_cancelled
    reset-ids z =
        let h : get_or cs k false ≡ get_or (reset_cancelled ls cs k) k false = sym (reset-keeps ls cs k k (omega arith)) in
        rw (e, add-one k, z, or-false, h, set-get_or)

module _ (cs : List Bool) (ns : List ℕ) where
  module _ (k : ℕ) (x : List ℕ) (e : x ≡ reset_acts cs ns k) where
    pub recount-live : get_or cs k false ≡ false → set x k 0 ≡ reset_acts cs ns (k + 1)
    unfolding reset_acts
    recount-live z = rw (e, add-one k, z)

    pub recount-cancelled : get_or cs k false ≡ true → x ≡ reset_acts cs ns (k + 1)
    unfolding reset_acts
    recount-cancelled z =
        let h : get_or ns k 0 ≡ get_or (reset_acts cs ns k) k 0 = sym (recounts-later cs ns k k (omega arith)) in
        rw (e, add-one k, z, h, set-get_or)
