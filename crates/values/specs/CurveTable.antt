-- Document 02's worked examples of curves, as computed theorems.
use Rattle.std.specs.Prelude.{refl, List, [], ◌∷◌, ℤ, pos, negsuc, Ok, Err}
use Rattle.values.specs.declared.codes.Alarm.TheVariants.{OutOfRange}
use Rattle.values.specs.declared.curve.Curve.{Curve}
use Rattle.values.specs.Value.{in_range, valued, sum_of, product_of, less_than}
use Rattle.values.specs.ValueTable.{Case, Holds}
use Rattle.values.specs.Curve.{polynomial_of, limited_to, curve_of}

-- a straight line between two limits
abbrev straight : ℤ → ℤ → ℤ → ℤ → Curve
straight l u b m = record { lower = l; upper = u; a0 = b; a1 = m; a2 = pos 0; a3 = pos 0 }

-- 0,120,160,-2,0,0: a feed that falls with the load
abbrev pub falling : Curve
falling = straight (pos 0) (pos 120000) (pos 160000) (negsuc 1999)

-- -100,100,500,-100,0,0
abbrev pub steep : Curve
steep = straight (negsuc 99999) (pos 100000) (pos 500000) (negsuc 99999)

-- document 02, request 03
unfoldable pub curve_cases : List Case
curve_cases =
    -- 100 at 30
    record { gives = curve_of falling (pos 30000); says = Ok (pos 100000) }
    -- 0 at 80
    ∷ record { gives = curve_of falling (pos 80000); says = Ok (pos 0) }
    -- 120 at 10, held by the upper limit
    ∷ record { gives = curve_of falling (pos 10000); says = Ok (pos 120000) }
    -- 0 at 5
    ∷ record { gives = curve_of steep (pos 5000); says = Ok (pos 0) }
    -- -100 at 6
    ∷ record { gives = curve_of steep (pos 6000); says = Ok (negsuc 99999) }
    -- -100 at 7, held by the lower limit
    ∷ record { gives = curve_of steep (pos 7000); says = Ok (negsuc 99999) }
    -- a step beyond the range gives 30, though the limits would hold it (reading D22)
    ∷ record { gives = curve_of steep (pos 1000000000); says = Err OutOfRange }
    -- limits that are equal leave one value (reading D25)
    ∷ record { gives = curve_of (straight (pos 7000) (pos 7000) (pos 0) (pos 1000)) (pos 9000); says = Ok (pos 7000) }
    ∷ []

-- document 02's examples hold
pub curve-table : Holds curve_cases
unfolding Holds curve_cases curve_of polynomial_of limited_to less_than valued in_range sum_of product_of
curve-table = (refl, (refl, (refl, (refl, (refl, (refl, (refl, (refl, tt))))))))
