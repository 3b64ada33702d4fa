-- Laws of the two's complement: what follows from the definitions of Complement.
use Rattle.std.specs.Prelude.{◌≡◌, ◌-◌, ◌<◌, ℤ, pos, negsuc}
use Rattle.std.proofs.Common.{arith, SFits, lt-ltb, le-ltb}
use Rattle.std.specs.Int.{w32}
use Rattle.values.specs.Complement.{twos_complement, signed}

pub signed_back : {v : ℤ} → SFits w32 v → signed (twos_complement v) ≡ v
unfolding signed twos_complement
signed_back {v = pos n} h = rw (lt-ltb n 2147483648 h.sfits)
signed_back {v = negsuc n} h =
    let l : n < 2147483648 = h.sfits in
    let e : 4294967295 - (4294967295 - n) ≡ n = omega arith in
    rw (le-ltb (4294967295 - n) 2147483648 (omega arith), e)
