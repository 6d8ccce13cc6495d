-- What a core's value says of its history.
use Rattle.std.proofs.Common.{◌≡◌, ap}
use Rattle.access_core.specs.Cores.{Core}

-- equal cores have equal histories
pub seen : {x y : Core} → x ≡ y → x.history ≡ y.history
seen is = ap (λ (core : Core). core.history) is
