-- Every promise has the form `result ≡ definition`: what that leaves no room for.
use Rattle.std.specs.Prelude.{◌≡◌}
use Rattle.std.proofs.Common.{sym, ◌∙◌}

-- two results that one promise allows are equal
pub unique : {A : Type 0} {meant one other : A} → one ≡ meant → other ≡ meant → one ≡ other
unique p q = p ∙ sym q
