-- Every call of every run keeps all, and so agreement holds.
use Rattle.std.proofs.Common.{◌≡◌, ℕ, ◌<◌, ◌≤◌, true, cond, leb, List, [], ◌∷◌, refl, ap, ◌∙◌}
use Rattle.std.proofs.lemmas.Bool.{and_parts, leb-true, both_ways}
use Rattle.agree.specs.Pool.{Event.opened, Replica}
use Rattle.agree.specs.Moves.{Move.starts}
use Rattle.agree.proofs.Reached.{reached_start, reached_agreed}
use Rattle.base.specs.Pools.{members, height_in_range, last_height}
use Rattle.base.specs.declared.slips.Mark.{Mark}
use Rattle.base.specs.declared.slips.Slip.{Slip}
use Rattle.message.specs.RoundTrip.{fields}
use Rattle.protocol.specs.Calls.{judge_offer, judge_begin, judge_tick}
use Rattle.protocol.specs.Messages.{Answer, judge_message}
use Rattle.protocol.specs.Runs.{Assembly, Call, opens, offers, begins, ticks, takes, turns, forwards, counts, closes, Act, Station, World, Step, box_of, step_by, settings_by, deeds, after, Vouched, Fitting, played, LawfulRun, as_pool, AgreementOfReplicas}
use Rattle.protocol.specs.State.{Settings, settings_lawful, first_view}
use Rattle.protocol.specs.Turns.{Gathering, Records, Forwarded, judge_opening, judge_forward, judge_commit, judge_closing}
use Rattle.protocol.proofs.Deciding.{fair_fresh, look_fresh, message_lands}
use Rattle.protocol.proofs.Keeping.{look, Good, onto, moves_on}
use Rattle.protocol.proofs.Settling.{Here, settles}
use Rattle.protocol.proofs.Timing.{offer_lands, begin_lands, tick_lands}
use Rattle.protocol.proofs.Turning.{opening_lands, forward_lands, commit_lands, closing_lands}

-- the pool after a call
abbrev stepped : Assembly → World → Act → Call → World
stepped a w act c =
    let s : Step = step_by (box_of a act.who (w.stations act.who)) act c in
    onto w act.who (record { live = true; settings = settings_by (w.stations act.who).settings c; view = s.view; left = s.left }) s.sealed
    (cond s.accepted (deeds a act.who (w.stations act.who) c) [])

-- the start height is in range
start_high : (s : Settings) → settings_lawful s ≡ true → s.start_height ≤ last_height
start_high s e =
    let r = and_parts (height_in_range (record { 0 = s.start_height })) _ e in
    leb-true s.start_height last_height (and_parts (leb 1 s.start_height) (leb s.start_height last_height) r.0).1

module _ (a : Assembly) (start : ℕ → Replica Slip Mark) (w : World) (act : Act) (good : Good a start w) (low : act.who < members a.pool) (sound : a.sound act.who ≡ true) where
  at : (w.stations act.who).live ≡ true → Here a start w act.who
  at live = record { good = good; low = low; sound = sound; live = live }

  call_keeps : (c : Call) → act.call ≡ c → Fitting a w act c → Good a start (stepped a w act c)
  call_keeps (opens s) is fit =
      moves_on a start w act.who good (record { live = true; settings = s; view = first_view s; left = (w.stations act.who).left }) [] (opened act.who s.start_height s.start_mark ∷ [])
      (starts s.start_height s.start_mark) (look act.who (w.stations act.who)) low sound refl fit.0
      (look_fresh act.who s.pool s.start_height s.start_mark) fit.1.1
      (fair_fresh s.pool a.pool s.start_height s.start_mark fit.1.1 (start_high s fit.1.0)) tt refl
  call_keeps (offers s) is fit =
      settles a start w act.who (at fit.0) Answer (Unit {0}) [] act.fill act.size act.seals (judge_offer (box_of a act.who (w.stations act.who)) s)
      (offer_lands a start w act.who (at fit.0) (Unit {0}) act.seals s fit.1) (λ e. tt)
  call_keeps begins is fit =
      settles a start w act.who (at fit) Answer (Unit {0}) [] act.fill act.size act.seals (judge_begin (box_of a act.who (w.stations act.who)))
      (begin_lands a start w act.who (at fit) (Unit {0}) act.seals) (λ e. tt)
  call_keeps (ticks k) is fit =
      settles a start w act.who (at fit) Answer (Unit {0}) [] act.fill act.size act.seals (judge_tick (box_of a act.who (w.stations act.who)) k)
      (tick_lands a start w act.who (at fit) (Unit {0}) act.seals k) (λ e. tt)
  call_keeps (takes m) is fit =
      settles a start w act.who (at fit.0) Answer (Vouched a act.who w.sealed (fields a.pool (a.long act.who) m)) (deeds a act.who (w.stations act.who) (takes m)) act.fill act.size act.seals
      (judge_message (box_of a act.who (w.stations act.who)) m)
      (message_lands a start w act.who (at fit.0) act.seals m fit.1.0)
      (λ e. fit.1.1 (ap (λ c. (step_by (box_of a act.who (w.stations act.who)) act c).accepted) is ∙ e))
  call_keeps turns is fit =
      settles a start w act.who (at fit) Gathering (Unit {0}) [] act.fill act.size act.seals (judge_opening (box_of a act.who (w.stations act.who)))
      (opening_lands a start w act.who (at fit) (Unit {0}) act.seals) (λ e. tt)
  call_keeps (forwards t rs) is fit =
      settles a start w act.who (at fit) Forwarded (Unit {0}) [] act.fill act.size act.seals (judge_forward (box_of a act.who (w.stations act.who)) t rs)
      (forward_lands a start w act.who (at fit) (Unit {0}) act.seals t rs) (λ e. tt)
  call_keeps (counts t rs m) is fit =
      settles a start w act.who (at fit.0) Records (Unit {0}) [] act.fill act.size act.seals (judge_commit (box_of a act.who (w.stations act.who)) t rs m)
      (commit_lands a start w act.who (at fit.0) (Unit {0}) act.seals t rs m) (λ e. tt)
  call_keeps (closes t rs) is fit =
      settles a start w act.who (at fit) Answer (Unit {0}) [] act.fill act.size act.seals (judge_closing (box_of a act.who (w.stations act.who)) t rs)
      (closing_lands a start w act.who (at fit) (Unit {0}) act.seals t rs) (λ e. tt)

  pub act_keeps : Fitting a w act act.call → Good a start (after a w act)
  act_keeps fit = call_keeps act.call refl fit

-- all is kept along a lawful run
pub good_run : (a : Assembly) (start : ℕ → Station) (run : List Act) → LawfulRun a start run → Good a (λ j. look j (start j)) (played a start run)
good_run a start [] shut =
    record {
      reached = reached_start (as_pool a) (λ j. look j (start j)) shut;
      pools = λ j live. absurd (both_ways (start j).live (shut j) live);
      fair = λ j live. absurd (both_ways (start j).live (shut j) live);
      told = λ i s fits h. absurd h;
    }
good_run a start (act ∷ run) lawful =
    act_keeps a (λ j. look j (start j)) (played a start run) act (good_run a start run lawful.0) lawful.1.0 lawful.1.1.0 lawful.1.1.1

pub agreement_of_replicas_lem : AgreementOfReplicas
agreement_of_replicas_lem a start run lawful =
    reached_agreed (as_pool a) (λ j. look j (start j)) (λ j. look j ((played a start run).stations j)) (played a start run).events (good_run a start run lawful).reached
