-- Trying settings.
use Rattle.std.specs.Prelude.{ℕ, cond, Some, None, Ok, Err, Option, Result}
use Rattle.base.specs.Pools.{pool_of}
use Rattle.base.specs.declared.pools.Pool.{Pool}
use Rattle.base.specs.declared.refusals.Refusal.{Refusal}
use Rattle.base.specs.declared.refusals.Refusal.TheVariants.{Unlawful}
use Rattle.holding.specs.declared.settings.Settings.{Settings}
use Rattle.holding.specs.declared.trials.Terms.{Terms}
use Rattle.holding.specs.Views.{settings_view}
use Rattle.protocol.specs.State.{settings_lawful}
use Rattle.protocol.specs.State as protocol

-- what is asked for, once the pool is known
abbrev pub asked : Terms → ℕ × (Pool → protocol.Settings)
asked t =
    (t.members, λ pool. record { pool = pool; start_height = t.start_height.0; start_mark = t.start_mark; d0 = t.times.d0; d1 = t.times.d1; d2 = t.times.d2; d3 = t.times.d3; g = t.times.g })

abbrev pub tried_in : (Pool → protocol.Settings) → Option Pool → Result protocol.Settings Refusal
tried_in terms None = Err Unlawful
tried_in terms (Some pool) = cond (settings_lawful (terms pool)) (Ok (terms pool)) (Err Unlawful)

-- settings within their limits, or refused with 17
abbrev pub tried : ℕ × (Pool → protocol.Settings) → Result protocol.Settings Refusal
tried a = tried_in a.1 (pool_of a.0)

abbrev pub shown_settings : Result Settings Refusal → Result protocol.Settings Refusal
shown_settings (Ok s) = Ok (settings_view s)
shown_settings (Err why) = Err why
