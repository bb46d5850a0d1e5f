-- What the values of the program stand for.
use Rattle.std.specs.Prelude.{Bool}
use Rattle.ballots.specs.Views.{statements_view}
use Rattle.base.specs.Pools.{members}
use Rattle.base.specs.declared.counters.Height.{Height}
use Rattle.base.specs.declared.pools.Pool.{Pool}
use Rattle.base.specs.declared.slips.Slip.{Slip}
use Rattle.base.specs.declared.stages.Stage.TheVariants.{Releasing}
use Rattle.holding.specs.declared.cores.Core.{Core}
use Rattle.holding.specs.declared.settings.Settings.{Settings}
use Rattle.holding.specs.declared.states.State.{State}
use Rattle.protocol.specs.Rounds.{moved, with_candidates, keep_only, highest_lock, locks_of}
use Rattle.protocol.specs.State.{View, Rules, Box}
use Rattle.protocol.specs.State as protocol
use Rattle.seal.specs.Meaning.{Meaning}
use Rattle.shelf.specs.Views.{shelf_view, held_view}
use Rattle.std.specs.Option.{option_map}

abbrev pub settings_view : Settings → protocol.Settings
settings_view s =
    record { pool = s.pool; start_height = s.start_height.0; start_mark = s.start_mark; d0 = s.times.d0; d1 = s.times.d1; d2 = s.times.d2; d3 = s.times.d3; g = s.times.g }

-- what a replica of a pool holds: of the ten places for statements those of the pool's members
abbrev pub view_of : Pool → State → View
view_of pool s =
    record {
      height = s.height.0;
      last = s.last;
      round = s.round.0;
      stage = s.stage;
      ticks = s.ticks;
      candidates = shelf_view s.candidates;
      held = option_map held_view s.held;
      latest = statements_view (members pool) s.statements;
      turned = s.turned;
    }

-- a rulebook's answers
abbrev pub rules_by : (Height → Slip → Bool) → (Slip → Slip → Bool) → Rules
rules_by admitted ranked = record { admits = λ h s. admitted (record { 0 = h }) s; above = ranked }

-- a replica as its calls see it
abbrev pub box_with : Settings → Meaning → Rules → State → Box
box_with settings sealer rules state =
    record { settings = settings_view settings; sealer = sealer; rules = rules; view = view_of settings.pool state }

abbrev pub box_of : {S R : Type 0} → (S → Meaning) → (R → Height → Slip → Bool) → (R → Slip → Slip → Bool) → Core S R → Box
box_of meaning admitted ranked c = box_with c.settings (meaning c.sealer) (rules_by (admitted c.rules) (ranked c.rules)) c.state

-- what is held on entering releasing: only the highest lock is kept
abbrev pub released_view : View → View
released_view v = moved (with_candidates v (keep_only (highest_lock v.held (locks_of v.candidates)) v.candidates)) v.round Releasing
