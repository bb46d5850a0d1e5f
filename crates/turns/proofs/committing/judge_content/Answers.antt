use Rattle.std.proofs.Common.{sym, refl, ap, ◌∙◌}
use Rattle.std.specs.Option.{option_map}
use Rattle.holding.proofs.Passing.{passed_as, refused_as}
use Rattle.base.specs.Seals.{seal_bytes}
use Rattle.holding.specs.Views.{box_of}
use Rattle.judging.specs.Views.{content_in}
use Rattle.std.proofs.lemmas.Result.{err_from_is_err_and}
use Rattle.turns.specs.Views.{counting_view}
use Rattle.turns.proofs.Commits.{noting, seal_kept, badly_sealed, well_sealed}
use Rattle.turns.proofs.committing.judge_content.Goals as goal

pub returns-in_err-judge_seals : goal.returns-in_err-judge_seals
returns-in_err-judge_seals g c whole keeps records =
    let core = c.args.core.now
    in let b = box_of g.S.Sealer.meaning g.R.Rulebook.admitted g.R.Rulebook.ranked core
    in let m = c.args.m.now
    in let p = err_from_is_err_and c.from_residual.result c.from_residual.ensures.1
    in rw (p.1, p.2) (badly_sealed b (counting_view c.args.turn.now) records m.head (content_in m.holds) c.in-Commit.slip c.in-Commit.seal.bytes.now (ap (λ x. content_in x) c.in-Commit.is) b.sealer.knows refl c.in_err-judge_seals.field-0.0 (refused_as _ _ (c.in_err-judge_seals.ensures whole)))

pub returns-in_err-judge_page : goal.returns-in_err-judge_page
returns-in_err-judge_page g c whole keeps records =
    let core = c.args.core.now
    in let b = box_of g.S.Sealer.meaning g.R.Rulebook.admitted g.R.Rulebook.ranked core
    in let m = c.args.m.now
    in let turn = counting_view c.args.turn.now
    in let is = ap (λ x. content_in x) c.in-Commit.is
    in let p = err_from_is_err_and c.from_residual-in_err-judge_page.result c.from_residual-in_err-judge_page.ensures.1
    in rw (p.1, p.2) (well_sealed b turn records m.head (content_in m.holds) c.in-Commit.slip c.in-Commit.seal.bytes.now is b.sealer.knows refl _ (passed_as _ (c.in_ok-judge_seals.ensures whole))
    (c.in_err-judge_page.ensures (noting b turn records m.head (content_in m.holds) c.in-Commit.slip c.in-Commit.seal.bytes.now is c.in-Commit.seal.bytes.now)))

pub returns : goal.returns
returns g c whole keeps records =
    let core = c.args.core.now
    in let b = box_of g.S.Sealer.meaning g.R.Rulebook.admitted g.R.Rulebook.ranked core
    in let m = c.args.m.now
    in let turn = counting_view c.args.turn.now
    in let a = c.in-Commit.seal.bytes.now
    in let is = ap (λ x. content_in x) c.in-Commit.is
    in well_sealed b turn records m.head (content_in m.holds) c.in-Commit.slip a is b.sealer.knows refl _ (passed_as _ (c.in_ok-judge_seals.ensures whole))
    (seal_kept b turn records m.head (content_in m.holds) c.in-Commit.slip a is (seal_bytes c.in_ok-seal.seal) keeps (ap (option_map seal_bytes) (sym c.in_ok-seal.ensures.ok_part) ∙ c.new.ensures)
    ∙ c.in_ok-judge_page.ensures (noting b turn records m.head (content_in m.holds) c.in-Commit.slip a is a))
