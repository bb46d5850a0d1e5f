-- The stage table, by the kind of the message.
use Rattle.std.specs.Prelude.{◌≡◌, ℕ, Bool, true, false, cond, ◌||◌, List, nat_lt}
use Rattle.base.specs.declared.stages.Kind.{Kind}
use Rattle.base.specs.declared.stages.Kind.TheVariants.{Change, Lock, Select, Commit, Decide, Release}
use Rattle.base.specs.declared.stages.Stage.{Stage}
use Rattle.base.specs.declared.stages.Stage.TheVariants.{Resting, Committing, Releasing}
use Rattle.message.specs.Contents.{Content}
use Rattle.message.specs.Encoding.{kind_in}
use Rattle.message.specs.declared.shapes.Head.{Head}
use Rattle.protocol.specs.Judging.{round_in, stage_takes}
use Rattle.protocol.specs.Rounds.{is_locking, is_releasing}
use Rattle.protocol.specs.State.{View}

-- whether a stage takes a message of the kind, of a round that is ahead of the replica's or not
abbrev pub takes_kind : Stage → Kind → Bool → Bool
takes_kind stage Change ahead = true
takes_kind stage Lock ahead = ahead || is_locking stage
takes_kind stage Select ahead = ahead || is_locking stage
takes_kind stage Commit ahead = false
takes_kind stage Decide ahead = true
takes_kind stage Release ahead = is_releasing stage

-- the stage that a message of the kind leads to, once it is taken
abbrev pub leads_to : Stage → Kind → Stage
leads_to stage Change = stage
leads_to stage Lock = Committing
leads_to stage Select = Releasing
leads_to stage Commit = stage
leads_to stage Decide = Resting
leads_to stage Release = stage

-- where it is not taken, the stage is as it was
abbrev pub stage_after : Stage → Kind → Bool → Stage
stage_after stage kind ahead = cond (takes_kind stage kind ahead) (leads_to stage kind) stage

-- whether a view takes a message depends on its kind alone, and on whether its round is ahead
abbrev pub ByKind : Type 0
ByKind = (v : View) (h : Head) (c : Content (List ℕ)) → stage_takes v h c ≡ takes_kind v.stage (kind_in c) (nat_lt v.round (round_in h))
