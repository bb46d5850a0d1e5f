-- What was read of a message, without the places of its parts.
use Rattle.std.proofs.Common.{◌≡◌, ℕ, List, Some, None, Ok, Err, Option, Result, refl, ap, arith}
use Rattle.base.specs.declared.pools.Pool.{Pool}
use Rattle.base.specs.declared.refusals.Refusal.{Refusal}
use Rattle.base.specs.declared.refusals.Refusal.TheVariants.{Misshapen}
use Rattle.message.specs.Contents.{Sent, on_sent}
use Rattle.message.specs.Layout.{Piece}
use Rattle.message.specs.RoundTrip.{fields}
use Rattle.message.specs.Shapes.{parsed}
use Rattle.message.specs.Views.{message_view, shown}
use Rattle.message.specs.declared.shapes.Message.{Message}
use Rattle.judging.specs.Views.{sent_of}
use Rattle.std.specs.Option.{option_map, ok_or}

-- the answer of a reader is these fields, or that there are none
abbrev pub ReadAs : Option (Sent (List ℕ)) → Result Message Refusal → Type 0
ReadAs said (Ok m) = said ≡ Some (sent_of m)
ReadAs said (Err why) = (said ≡ None) × (why ≡ Misshapen)

read_by : (o : Option (Sent Piece)) (r : Result Message Refusal) → shown r ≡ ok_or o Misshapen → ReadAs (option_map (on_sent (λ (p : Piece). p.bytes)) o) r
read_by None (Ok m) is = absurd (let z : ◌≡◌ {A = ℕ} 0 1 = cc in omega arith)
read_by None (Err why) is = (refl, cc)
read_by (Some s) (Ok m) is = let same : s ≡ message_view m = cc in ap (λ x. Some (on_sent (λ (p : Piece). p.bytes) x)) same
read_by (Some s) (Err why) is = absurd (let z : ◌≡◌ {A = ℕ} 0 1 = cc in omega arith)

pub read_fields : (pool : Pool) (n : ℕ) (m : List ℕ) (r : Result Message Refusal) → shown r ≡ ok_or (parsed pool n m) Misshapen → ReadAs (fields pool n m) r
read_fields pool n m r is = read_by (parsed pool n m) r is
