use Rattle.std.proofs.Common.{Ok, Err, sym, refl, ap, ◌∙◌}
use Rattle.std.proofs.lemmas.Result.{err_from_is_err_and}
use Rattle.holding.specs.Views.{box_of}
use Rattle.holding.proofs.Endings.{outcome_as, ends_refused}
use Rattle.judging.specs.Views.{sent_of}
use Rattle.judging.proofs.Fields.{read_fields}
use Rattle.base.specs.declared.refusals.Refusal.TheVariants.{Misshapen}
use Rattle.message.specs.Shapes.{parsed}
use Rattle.std.specs.Option.{ok_or}
use Rattle.moves.proofs.Verdicts.{judged_none, judged_some, judged_passed, judged_refused}
use Rattle.moves.proofs.messages.take.Goals as goal

pub returns-in_err-m : goal.returns-in_err-m
returns-in_err-m g c =
    let b = box_of g.S.Sealer.meaning g.R.Rulebook.admitted g.R.Rulebook.ranked c.args.core.now
    in let p = err_from_is_err_and c.from_residual.result c.from_residual.ensures.1
    in let m = c.args.message.now
    in let n = g.S.Checker.seal_long
    in let r = read_fields b.settings.pool n m (Err c.in_err-m.field-0.0) (c.in_err-m.ensures.reads ∙ ap (λ f. ok_or (parsed f.pool f.seal_len m) Misshapen) c.format.ensures)
    in rw (p.1, p.2) (outcome_as b _ _ _ _ _ _ _ _ (ap Err r.1 ∙ judged_none b m n (g.met.S.Sealer.long c.args.core.now.sealer) c.if-not-is_member.ensures r.0)
    (ends_refused b _ _ _ _ _ refl refl c.in_err-m.field-0.0 refl))

pub returns-in_err-stage : goal.returns-in_err-stage
returns-in_err-stage g c =
    let b = box_of g.S.Sealer.meaning g.R.Rulebook.admitted g.R.Rulebook.ranked c.args.core.now
    in let p = err_from_is_err_and c.from_residual-in_err-stage.result c.from_residual-in_err-stage.ensures.1
    in let m = c.args.message.now
    in let s = sent_of c.in_ok-m.m
    in let n = g.S.Checker.seal_long
    in let is = read_fields b.settings.pool n m (Ok c.in_ok-m.m) (c.in_ok-m.ensures.reads ∙ ap (λ f. ok_or (parsed f.pool f.seal_len m) Misshapen) c.format.ensures)
    in let no = c.in_err-stage.ensures.refuses c.in_ok-m.ensures.wholes
    in rw (p.1, p.2) (outcome_as b _ _ _ _ _ _ _ _ (sym (judged_refused b m s c.in_err-stage.field-0.0 (sym no)) ∙ judged_some b m n (g.met.S.Sealer.long c.args.core.now.sealer) c.if-not-is_member.ensures s is)
    (ends_refused b _ _ _ _ _ refl refl c.in_err-stage.field-0.0 refl))

pub act-requires : goal.act-requires
act-requires g c =
    let b = box_of g.S.Sealer.meaning g.R.Rulebook.admitted g.R.Rulebook.ranked c.args.core.now
    in let m = c.args.message.now
    in record {
      read = read_fields b.settings.pool g.S.Checker.seal_long m (Ok c.in_ok-m.m) (c.in_ok-m.ensures.reads ∙ ap (λ f. ok_or (parsed f.pool f.seal_len m) Misshapen) c.format.ensures);
      passed = sym (c.in_ok-stage.ensures.refuses c.in_ok-m.ensures.wholes);
      leads = c.in_ok-stage.ensures.leads;
    }

pub returns : goal.returns
returns g c =
    let b = box_of g.S.Sealer.meaning g.R.Rulebook.admitted g.R.Rulebook.ranked c.args.core.now
    in let m = c.args.message.now
    in let s = sent_of c.in_ok-m.m
    in let n = g.S.Checker.seal_long
    in let is = read_fields b.settings.pool n m (Ok c.in_ok-m.m) (c.in_ok-m.ensures.reads ∙ ap (λ f. ok_or (parsed f.pool f.seal_len m) Misshapen) c.format.ensures)
    in outcome_as b _ _ _ _ _ _ _ _ (sym (judged_passed b m s (sym (c.in_ok-stage.ensures.refuses c.in_ok-m.ensures.wholes))) ∙ judged_some b m n (g.met.S.Sealer.long c.args.core.now.sealer) c.if-not-is_member.ensures s is)
    c.act.ensures
