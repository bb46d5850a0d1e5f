use Rattle.std.proofs.Common.{sym}
use Rattle.ballots.proofs.Placing.{noted_again, noted_past}
use Rattle.ballots.proofs.commits.note.Goals as goal
use Rattle.ballots.proofs.commits.note.Goals.{else-i-records-via-then-i-records+else-not-backs, else-i-records-via-else-i-records}

pub returns-else-i-records : goal.returns-else-i-records
returns-else-i-records c =
    elim c.else-i-records.branch [
      | else-i-records-via-then-i-records+else-not-backs w ↦ noted_again c.args.page.now c.args.member.0 c.args.commit c.args.records.now w.index-records-i.result w.if-i-records.true (sym w.if-not-backs.ensures)
      | else-i-records-via-else-i-records w ↦ noted_past c.args.page.now c.args.member.0 c.args.commit c.args.records.now w.if-i-records.false
    ]
