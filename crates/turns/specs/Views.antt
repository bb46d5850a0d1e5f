-- What turns and the answers about them stand for.
use Rattle.std.specs.Prelude.{◌≡◌, Ok, Err, Option, Result}
use Rattle.base.specs.declared.refusals.Refusal.{Refusal}
use Rattle.protocol.specs.Messages.{Answer, taken}
use Rattle.protocol.specs.Turns.{Records, Forwarded}
use Rattle.protocol.specs.Turns as protocol
use Rattle.std.specs.Option.{option_map}
use Rattle.turns.specs.declared.phases.Counting.{Counting}
use Rattle.turns.specs.declared.phases.Gathering.{Gathering}

abbrev pub gathering_view : Gathering → protocol.Gathering
gathering_view t = record { height = t.at.height.0; round = t.at.round.0 }

abbrev pub counting_view : Counting → protocol.Counting
counting_view t = record { height = t.at.height.0; round = t.at.round.0; page = t.page }

-- an opened turn, or why there is none
abbrev pub opened_view : Result Gathering Refusal → Result protocol.Gathering Refusal
opened_view (Ok t) = Ok (gathering_view t)
opened_view (Err why) = Err why

-- a call that answers nothing but that it was taken
abbrev pub done_view : {X : Type 0} → Result X Refusal → Result Answer Refusal
done_view (Ok x) = Ok taken
done_view (Err why) = Err why

-- a refusal that hands the turn back
abbrev pub closed_view : {X T : Type 0} → Result X (Refusal × T) → Result Answer Refusal
closed_view (Ok x) = Ok taken
closed_view (Err e) = Err e.0

-- a refusal hands back the turn that was given
abbrev pub HandedBack : {X T : Type 0} → T → Result X (Refusal × T) → Type 0
HandedBack turn (Ok x) = Unit {0}
HandedBack turn (Err e) = e.1 ≡ turn

-- what a refused call leaves as it was
abbrev pub KeptUnlessOk : {X E Y : Type 0} → Y → Y → Result X E → Type 0
KeptUnlessOk before after (Ok x) = Unit {0}
KeptUnlessOk before after (Err e) = after ≡ before

-- the counting turn, if any, and the records; a refusal may hand the gathering turn back
abbrev pub forward_view : Records → Result (Option Counting) Refusal → Result Forwarded Refusal
forward_view records (Ok t) = Ok (record { turn = option_map counting_view t; records = records })
forward_view records (Err why) = Err why

abbrev pub forwarded_view : {T : Type 0} → Records → Result (Option Counting) (Refusal × T) → Result Forwarded Refusal
forwarded_view records (Ok t) = Ok (record { turn = option_map counting_view t; records = records })
forwarded_view records (Err e) = Err e.0

-- the records after a commit was taken
abbrev pub taken_view : {X : Type 0} → Records → Result X Refusal → Result Records Refusal
taken_view records (Ok x) = Ok records
taken_view records (Err why) = Err why
