-- Which of two lock messages is handed on.
use Rattle.std.specs.Prelude.{cond, Some, None, Ok, Err, Option, Result, nat_lt}
use Rattle.base.specs.declared.refusals.Refusal.{Refusal}
use Rattle.base.specs.declared.refusals.Refusal.TheVariants.{Misshapen}
use Rattle.message.specs.Contents.{Locked}
use Rattle.message.specs.Layout.{Piece}

-- the received one if it is of a higher round, else the kept one; refused if either is no lock message
abbrev pub higher_of : {X : Type 0} → Option (Locked Piece) → Option (Locked Piece) → X → X → Result X Refusal
higher_of None b kept received = Err Misshapen
higher_of (Some a) None kept received = Err Misshapen
higher_of (Some a) (Some b) kept received = cond (nat_lt a.head.round.0 b.head.round.0) (Ok received) (Ok kept)
