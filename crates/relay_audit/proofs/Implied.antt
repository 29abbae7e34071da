-- Tests that follow one from the other.
use Rattle.std.proofs.Common.{◌≡◌, Bool, true, false, not, refl}
use Rattle.relay_model.specs.Audit.{implies}

pub implies_met : (a : Bool) → implies a true ≡ true
implies_met true = refl
implies_met false = refl

pub implies_unmet : (a : Bool) → implies a false ≡ not a
implies_unmet true = refl
implies_unmet false = refl
