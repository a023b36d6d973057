-- What a function returns where a call in it failed.
use Rattle.std.proofs.Common.{◌≡◌, sym, subst, Result, Ok, Err}
use Rattle.std.specs.Prelude.{IfErr, IsErrAnd}

-- what holds of every failure holds of one that is given
pub err_all : {T E : Type 0} (r : Result T E) (P : E → Type 0) → ((why : E) → P why) → IfErr r P
err_all (Ok x) P each = tt
err_all (Err why) P each = each why

-- what holds of a failure holds where `?` hands it on
pub handed_on : {T E : Type 0} (r : Result T E) (why : E) (P : E → Type 0) → IsErrAnd r (λ e. e ≡ why) → P why → IfErr r P
handed_on (Ok x) why P exit holds = absurd exit
handed_on (Err e) why P exit holds = subst P (sym exit) holds
