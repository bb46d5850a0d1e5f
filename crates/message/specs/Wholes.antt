-- Of a message that was read the quorum's seals can all be handed out.
use Rattle.std.specs.Prelude.{◌≡◌, ◌≤◌, true, length, Some, None, Ok, Err, Option, Result}
use Rattle.message.specs.Layout.{left, whole}
use Rattle.message.specs.Views.{place_of}
use Rattle.message.specs.declared.shapes.Certificate.{Certificate}
use Rattle.message.specs.declared.shapes.LockMessage.{LockMessage}
use Rattle.message.specs.declared.shapes.Holds.{Holds}
use Rattle.message.specs.declared.shapes.Holds.TheVariants.{Change, Lock, Select, Commit, Decide, Release}
use Rattle.message.specs.declared.shapes.Message.{Message}
use Rattle.base.specs.declared.refusals.Refusal.{Refusal}

-- the reader stands in a message that is whole, before no more bodies than a quorum of ten members has
pub record WholeCert (c : Certificate) : Type 0 where
  pub votes_whole : whole (place_of c.votes) ≡ true
  pub votes_few : length (left (place_of c.votes)) ≤ 7

abbrev pub WholeHolds : Holds → Type 0
WholeHolds (Change page rchg cand) = Unit {0}
WholeHolds (Lock c) = WholeCert c
WholeHolds (Select c) = WholeCert c
WholeHolds (Commit slip seal) = Unit {0}
WholeHolds (Decide c) = WholeCert c
WholeHolds (Release part inner own) = WholeCert inner.certificate

abbrev pub Whole : Message → Type 0
Whole m = WholeHolds m.holds

-- what a step of reading hands back, if anything
abbrev pub WholeLock : Option LockMessage → Type 0
WholeLock None = Unit {0}
WholeLock (Some l) = WholeCert l.certificate

abbrev pub WholeOption : Option Holds → Type 0
WholeOption None = Unit {0}
WholeOption (Some h) = WholeHolds h

abbrev pub WholeAnswer : Result Message Refusal → Type 0
WholeAnswer (Ok m) = Whole m
WholeAnswer (Err why) = Unit {0}
