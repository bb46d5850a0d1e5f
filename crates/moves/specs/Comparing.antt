-- Comparing the lock message that a replica holds with one that it received.
use Rattle.std.specs.Prelude.{ℕ, List, Some, None, Ok, Err, Option, Result}
use Rattle.std.specs.Borrow.{Bor}
use Rattle.base.specs.declared.pools.Pool.{Pool}
use Rattle.base.specs.declared.refusals.Refusal.{Refusal}
use Rattle.base.specs.declared.refusals.Refusal.TheVariants.{Misshapen, Stranger}
use Rattle.message.specs.Comparing.{higher_of}
use Rattle.message.specs.Contents.{Locked}
use Rattle.message.specs.Layout.{Piece}
use Rattle.message.specs.Shapes.{lock_of}
use Rattle.protocol.specs.Plans.{unless}
use Rattle.protocol.specs.State.{Box, Held}
use Rattle.moves.specs.Refusing.{is_member}

-- a lock message, if it is one
abbrev pub if_lock : Option (Locked Piece) → List ℕ → Result (List ℕ) Refusal
if_lock None m = Err Misshapen
if_lock (Some l) m = Ok m

-- of the held message and the received one the higher, the held one on equal rounds; the received one if none is held
abbrev pub compared_to : Pool → ℕ → Option Held → List ℕ → Result (List ℕ) Refusal
compared_to pool n None m = if_lock (lock_of pool n m) m
compared_to pool n (Some h) m = higher_of (lock_of pool n h.bytes) (lock_of pool n m) h.bytes m

abbrev pub compared : Box → List ℕ → Result (List ℕ) Refusal
compared b m = unless (is_member b) Stranger (compared_to b.settings.pool b.sealer.long b.view.held m)

-- what is handed on, by its bytes
abbrev pub handed : Result (Bor (List ℕ)) Refusal → Result (List ℕ) Refusal
handed (Ok part) = Ok part.now
handed (Err why) = Err why
