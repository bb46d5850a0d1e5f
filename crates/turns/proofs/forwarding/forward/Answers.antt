use Rattle.std.proofs.Common.{[], ◌∷◌, refl, arith}
use Rattle.ballots.specs.Views.{commit_view, records_view}
use Rattle.base.specs.Seals.{seal_bytes}
use Rattle.holding.specs.Views.{box_of}
use Rattle.std.proofs.lemmas.List.{length-map}
use Rattle.std.proofs.lemmas.Result.{err_from_is_err_and}
use Rattle.turns.specs.Plans.{forward_plan}
use Rattle.turns.specs.Views.{gathering_view}
use Rattle.turns.proofs.Ending.{judged_not}
use Rattle.turns.proofs.Forwards.{forward_enough, forwards, forwards_not, lock_answers, select_answers}
use Rattle.turns.proofs.forwarding.forward.Goals as goal

pub returns-in_err-proposal : goal.returns-in_err-proposal
returns-in_err-proposal g c =
    let b = box_of g.S.Sealer.meaning g.R.Rulebook.admitted g.R.Rulebook.ranked c.args.core.now
    in let p = err_from_is_err_and c.from_residual.result c.from_residual.ensures.1
    in rw (p.1, p.2) (record { ends = judged_not b _ _ _ _ _ _ c.in_err-proposal.field-0.0 c.in_err-proposal.ensures refl refl refl; kept = refl })

pub returns-in_err-send_proposal : goal.returns-in_err-send_proposal
returns-in_err-send_proposal g c =
    let b = box_of g.S.Sealer.meaning g.R.Rulebook.admitted g.R.Rulebook.ranked c.args.core.now
    in let p = err_from_is_err_and c.from_residual-in_err-send_proposal.result c.from_residual-in_err-send_proposal.ensures.1
    in rw (p.1, p.2) (record {
      ends =
          forwards_not b _ _ _ _ _ _ (records_view c.args.records.now) c.in_ok-proposal.proposal c.in_ok-proposal.ensures (g.S.Sealer.meaning c.send_proposal.new.sealer) refl
          c.in_err-send_proposal.field-0.0 c.in_err-send_proposal.ensures;
      kept = refl;
    })

pub returns-in-Lock : goal.returns-in-Lock
returns-in-Lock g c =
    let b = box_of g.S.Sealer.meaning g.R.Rulebook.admitted g.R.Rulebook.ranked c.args.core.now
    in let records = c.args.records.now
    in let p = c.in_ok-proposal.proposal
    in let many = forward_enough b (gathering_view c.args.turn.now) (records_view records) (forward_plan b (records_view records) p) c.in_ok-proposal.ensures
    in let same = length-map records commit_view
    in record {
      ends =
          rw c.of-at.ensures
          (forwards b _ _ _ _ _ _ (records_view records) p c.in_ok-proposal.ensures (g.S.Sealer.meaning c.send_proposal.new.sealer) refl _ (seal_bytes c.in_ok-send_proposal.field-0 ∷ [])
          (lock_answers b (records_view records) (records_view c.blank.new.records) p c.in-Lock.page _ c.in-Lock.is (cc) (c.blank.ensures.blanked (omega arith)))
          c.in_ok-send_proposal.ensures);
      kept = tt;
    }

pub returns-in-Select : goal.returns-in-Select
returns-in-Select g c =
    let b = box_of g.S.Sealer.meaning g.R.Rulebook.admitted g.R.Rulebook.ranked c.args.core.now
    in let records = c.args.records.now
    in let p = c.in_ok-proposal.proposal
    in record {
      ends =
          forwards b _ _ _ _ _ _ (records_view records) p c.in_ok-proposal.ensures (g.S.Sealer.meaning c.send_proposal.new.sealer) refl _ (seal_bytes c.in_ok-send_proposal.field-0 ∷ [])
          (select_answers b (records_view records) p c.in-Select.field-0 c.in-Select.is)
          c.in_ok-send_proposal.ensures;
      kept = tt;
    }
