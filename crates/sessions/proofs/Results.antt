-- What a result gives, if it isn't refused.
use Rattle.std.proofs.Common.{◌≡◌, Some, None, Result, Ok, Err, unwrap_or, refl, sym, ap}
use Rattle.std.specs.Result.{result_ok}
use Rattle.hex.specs.declared.error.FromHexError.{FromHexError}

pub read_ok : {X : Type 0} (r : Result X FromHexError) (x : X) → Some x ≡ result_ok r → r ≡ Ok x
read_ok (Ok y) x is = ap (λ o. Ok (unwrap_or o x)) (sym is)
read_ok (Err e) x is = cc

pub read_err : {X : Type 0} (r : Result X FromHexError) → None ≡ result_ok r → (e : FromHexError) × (r ≡ Err e)
read_err (Ok y) is = cc
read_err (Err e) is = (e, refl)
