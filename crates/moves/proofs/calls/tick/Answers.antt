use Rattle.std.proofs.Common.{◌+◌, sym, refl, ◌∙◌}
use denote.Enum.Bare.{same_true, same_false}
use Rattle.base.specs.contracts.stages.Stage.{the_type}
use Rattle.std.proofs.lemmas.Result.{err_from_is_err_and}
use Rattle.holding.specs.Views.{box_of}
use Rattle.holding.proofs.Endings.{outcome_as, ends_quiet}
use Rattle.protocol.specs.Messages.{taken}
use Rattle.protocol.specs.Rounds.{plainly, with_ticks}
use Rattle.moves.specs.Refusing.{tick_refused}
use Rattle.moves.proofs.Refusals.{tick_judged, tick_rests, tick_counts, tick_moves, is_refused, is_judged}
use Rattle.moves.proofs.calls.tick.Goals as goal

pub returns-in_err-judge_tick : goal.returns-in_err-judge_tick
returns-in_err-judge_tick g c =
    let b = box_of g.S.Sealer.meaning g.R.Rulebook.admitted g.R.Rulebook.ranked c.args.core.now
    in let p = err_from_is_err_and c.from_residual.result c.from_residual.ensures.1
    in rw (p.1, p.2) (is_refused b c.args.fill.now.len c.args.out.now (tick_refused b c.args.ticks) _ _ (tick_judged b c.args.ticks) c.in_err-judge_tick.field-0.0 c.in_err-judge_tick.ensures)

pub returns-then-eq : goal.returns-then-eq
returns-then-eq g c =
    let b = box_of g.S.Sealer.meaning g.R.Rulebook.admitted g.R.Rulebook.ranked c.args.core.now
    in let k = c.args.ticks
    in outcome_as b _ _ _ _ _ _ _ _ (tick_rests b k (same_true the_type tt _ _ (sym c.if-eq.ensures)) ∙ is_judged b c.args.fill.now.len c.args.out.now (tick_refused b k) _ _ (tick_judged b k) c.in_ok-judge_tick.ensures)
    (ends_quiet b _ _ _ _ _ refl refl (plainly taken b.view) refl refl)

pub returns-then-is_early : goal.returns-then-is_early
returns-then-is_early g c =
    let b = box_of g.S.Sealer.meaning g.R.Rulebook.admitted g.R.Rulebook.ranked c.args.core.now
    in let k = c.args.ticks
    in outcome_as b _ _ _ _ _ _ _ _ (tick_counts b k c.time_of-time.result c.time_of-time.ensures (same_false the_type _ _ (sym c.if-eq.ensures)) c.if-is_early.ensures ∙ is_judged b c.args.fill.now.len c.args.out.now (tick_refused b k) _ _ (tick_judged b k) c.in_ok-judge_tick.ensures)
    (ends_quiet b _ _ _ _ _ refl refl (plainly taken (with_ticks b.view (b.view.ticks + k))) refl refl)

pub returns : goal.returns
returns g c =
    let b = box_of g.S.Sealer.meaning g.R.Rulebook.admitted g.R.Rulebook.ranked c.args.core.now
    in let k = c.args.ticks
    in outcome_as b _ _ _ _ _ _ _ _ (tick_moves b k c.time_of-time.result c.time_of-time.ensures (same_false the_type _ _ (sym c.if-eq.ensures)) c.if-is_early.ensures ∙ is_judged b c.args.fill.now.len c.args.out.now (tick_refused b k) _ _ (tick_judged b k) c.in_ok-judge_tick.ensures)
    c.time_out.ensures
