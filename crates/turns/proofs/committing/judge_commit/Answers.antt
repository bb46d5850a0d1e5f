use Rattle.std.proofs.Common.{Some, None, Ok, Err, refl, ap, ◌∙◌}
use Rattle.ballots.specs.Views.{records_view}
use Rattle.holding.specs.Views.{box_of}
use Rattle.judging.proofs.Fields.{read_fields}
use Rattle.judging.specs.Views.{sent_of}
use Rattle.base.specs.declared.refusals.Refusal.TheVariants.{Misshapen}
use Rattle.message.specs.Shapes.{parsed}
use Rattle.std.specs.Option.{ok_or}
use Rattle.protocol.specs.Turns.{commit_in, judged_commit}
use Rattle.std.proofs.lemmas.Result.{err_from_is_err_and}
use Rattle.turns.specs.Views.{counting_view}
use Rattle.turns.proofs.Commits.{caller_asked, commit_judged, keeps_read}
use Rattle.turns.proofs.committing.judge_commit.Goals as goal

pub returns-in_err-judge_caller : goal.returns-in_err-judge_caller
returns-in_err-judge_caller g c =
    let b = box_of g.S.Sealer.meaning g.R.Rulebook.admitted g.R.Rulebook.ranked c.args.core.now
    in let p = err_from_is_err_and c.from_residual.result c.from_residual.ensures.1
    in rw (p.1, p.2) (caller_asked b (counting_view c.args.turn.now) (records_view c.args.records.now) c.args.message.now _ refl _ c.in_err-judge_caller.ensures)

pub returns-in_err-m : goal.returns-in_err-m
returns-in_err-m g c =
    let core = c.args.core.now
    in let pool = core.settings.pool
    in let n = g.S.Checker.seal_long
    in let message = c.args.message.now
    in let read = read_fields pool n message (Err c.in_err-m.field-0.0) (c.in_err-m.ensures.reads ∙ ap (λ f. ok_or (parsed f.pool f.seal_len message) Misshapen) c.format.ensures)
    in let p = err_from_is_err_and c.from_residual-in_err-m.result c.from_residual-in_err-m.ensures.1
    in rw (p.1, p.2) (commit_judged (box_of g.S.Sealer.meaning g.R.Rulebook.admitted g.R.Rulebook.ranked core) (counting_view c.args.turn.now) (records_view c.args.records.now) message
    n (g.met.S.Sealer.long core.sealer) c.in_ok-judge_caller.ensures
    None _ read.0 (ap Err read.1))

pub returns-in_err-judge_time : goal.returns-in_err-judge_time
returns-in_err-judge_time g c =
    let core = c.args.core.now
    in let pool = core.settings.pool
    in let n = g.S.Checker.seal_long
    in let message = c.args.message.now
    in let m = c.in_ok-m.m
    in let b = box_of g.S.Sealer.meaning g.R.Rulebook.admitted g.R.Rulebook.ranked core
    in let turn = counting_view c.args.turn.now
    in let records = records_view c.args.records.now
    in let p = err_from_is_err_and c.from_residual-in_err-judge_time.result c.from_residual-in_err-judge_time.ensures.1
    in rw (p.1, p.2) (commit_judged b turn records message
    n (g.met.S.Sealer.long core.sealer) c.in_ok-judge_caller.ensures
    (Some (sent_of m)) _ (read_fields pool n message (Ok m) (c.in_ok-m.ensures.reads ∙ ap (λ f. ok_or (parsed f.pool f.seal_len message) Misshapen) c.format.ensures))
    (c.in_err-judge_time.ensures c.in_ok-m.ensures.wholes (judged_commit b turn records m.head (commit_in (sent_of m).content))))

pub returns-in_err-commit : goal.returns-in_err-commit
returns-in_err-commit g c =
    let core = c.args.core.now
    in let pool = core.settings.pool
    in let n = g.S.Checker.seal_long
    in let message = c.args.message.now
    in let m = c.in_ok-m.m
    in let b = box_of g.S.Sealer.meaning g.R.Rulebook.admitted g.R.Rulebook.ranked core
    in let turn = counting_view c.args.turn.now
    in let records = records_view c.args.records.now
    in let is = read_fields pool n message (Ok m) (c.in_ok-m.ensures.reads ∙ ap (λ f. ok_or (parsed f.pool f.seal_len message) Misshapen) c.format.ensures)
    in let whole = c.in_ok-m.ensures.wholes
    in let keeps = keeps_read pool n g.S.Checker.seal_long refl g.met.S.Checker.sizes message (sent_of m) c.in_ok-m.ensures.law c.type_inv.message is
    in let p = err_from_is_err_and c.from_residual-in_err-commit.result c.from_residual-in_err-commit.ensures.1
    in rw (p.1, p.2) (commit_judged b turn records message
    n (g.met.S.Sealer.long core.sealer) c.in_ok-judge_caller.ensures
    (Some (sent_of m)) _ is
    (c.in_err-commit.ensures whole keeps records ∙ c.in_ok-judge_time.ensures whole (judged_commit b turn records m.head (commit_in (sent_of m).content))))

pub returns : goal.returns
returns g c =
    let core = c.args.core.now
    in let pool = core.settings.pool
    in let n = g.S.Checker.seal_long
    in let message = c.args.message.now
    in let m = c.in_ok-m.m
    in let b = box_of g.S.Sealer.meaning g.R.Rulebook.admitted g.R.Rulebook.ranked core
    in let turn = counting_view c.args.turn.now
    in let records = records_view c.args.records.now
    in let is = read_fields pool n message (Ok m) (c.in_ok-m.ensures.reads ∙ ap (λ f. ok_or (parsed f.pool f.seal_len message) Misshapen) c.format.ensures)
    in let whole = c.in_ok-m.ensures.wholes
    in let keeps = keeps_read pool n g.S.Checker.seal_long refl g.met.S.Checker.sizes message (sent_of m) c.in_ok-m.ensures.law c.type_inv.message is
    in commit_judged b turn records message
    n (g.met.S.Sealer.long core.sealer) c.in_ok-judge_caller.ensures
    (Some (sent_of m)) _ is
    (c.in_ok-commit.ensures whole keeps records ∙ c.in_ok-judge_time.ensures whole (judged_commit b turn records m.head (commit_in (sent_of m).content)))
