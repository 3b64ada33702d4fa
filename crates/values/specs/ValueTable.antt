-- The worked examples of values of documents 01 and 02, as computed theorems.
use Rattle.std.specs.Prelude.{◌≡◌, refl, List, [], ◌∷◌, pos, negsuc, Result, Ok, Err, ℤ}
use Rattle.values.specs.declared.codes.Alarm.{Alarm}
use Rattle.values.specs.declared.codes.Alarm.TheVariants.{OutOfRange, ZeroDivisor}
use Rattle.values.specs.Value.{valued, in_range, sum_of, product_of, quotient_of, nearest_units, marker_of}

-- what the definitions compute, and what the document says
pub record Case : Type 0 where
  pub gives : Result ℤ Alarm
  pub says : Result ℤ Alarm

-- document 01, "Values and time"
unfoldable pub value_cases : List Case
value_cases =
    -- 1/3 is 0.333
    record { gives = quotient_of (pos 1000) (pos 3000); says = Ok (pos 333) }
    -- -1/3 is -0.333
    ∷ record { gives = quotient_of (negsuc 999) (pos 3000); says = Ok (negsuc 332) }
    -- 0.001*0.5 is 0
    ∷ record { gives = product_of (pos 1) (pos 500); says = Ok (pos 0) }
    -- 1000000*1 passes
    ∷ record { gives = product_of (pos 1000000000) (pos 1000); says = Ok (pos 1000000000) }
    -- 1000000+0.001 gives alarm 30
    ∷ record { gives = sum_of (pos 1000000000) (pos 1); says = Err OutOfRange }
    -- 1/0 gives alarm 31
    ∷ record { gives = quotient_of (pos 1000) (pos 0); says = Err ZeroDivisor }
    -- a marker from 1.999 is 2 (document 02)
    ∷ record { gives = marker_of (pos 1999); says = Ok (pos 2000) }
    -- a marker from -1.999 is -2 (document 02)
    ∷ record { gives = marker_of (negsuc 1998); says = Ok (negsuc 1999) }
    -- 99990.001*10.001 is cut before the range is tested, and passes as 1000000 (reading A30)
    ∷ record { gives = product_of (pos 99990001) (pos 10001); says = Ok (pos 1000000000) }
    ∷ []

-- document 02, Req 02: what a marker takes
unfoldable pub marker_cases : List Case
marker_cases =
    -- 1.6 gives 2
    record { gives = marker_of (pos 1600); says = Ok (pos 2000) }
    -- 1.5 gives 2
    ∷ record { gives = marker_of (pos 1500); says = Ok (pos 2000) }
    -- -1.5 gives -2
    ∷ record { gives = marker_of (negsuc 1499); says = Ok (negsuc 1999) }
    -- 1.499 gives 1
    ∷ record { gives = marker_of (pos 1499); says = Ok (pos 1000) }
    ∷ []

-- every case gives what it says
unfoldable pub Holds : List Case → Type 0
Holds [] = Unit {0}
Holds (c ∷ cs) = (c.gives ≡ c.says) × Holds cs

-- document 01's examples hold
pub value-table : Holds value_cases
unfolding Holds value_cases valued in_range sum_of product_of quotient_of marker_of nearest_units
value-table = (refl, (refl, (refl, (refl, (refl, (refl, (refl, (refl, (refl, tt)))))))))

-- document 02's examples of markers hold
pub marker-table : Holds marker_cases
unfolding Holds marker_cases in_range marker_of nearest_units
marker-table = (refl, (refl, (refl, (refl, tt))))
