-- Answers that pass or refuse.
use Rattle.std.proofs.Common.{◌≡◌, Some, None, Ok, Err, Option, refl}
use Rattle.base.specs.Refusals.{passing}
use Rattle.base.specs.declared.refusals.Refusal.{Refusal}

-- an answer that passes, and one that is a refusal
pub refused_as : (o : Option Refusal) (why : Refusal) → Err why ≡ passing o → Some why ≡ o
refused_as None why e = cc
refused_as (Some w) why e = cc

pub passed_as : (o : Option Refusal) → Ok tt ≡ passing o → None ≡ o
passed_as None e = refl
passed_as (Some w) e = cc
