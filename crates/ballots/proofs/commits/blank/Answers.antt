use Rattle.ballots.proofs.Placing.{blanked}
use Rattle.ballots.proofs.commits.blank.Goals as goal

pub returns-then-n-records-clause-blanked : goal.returns-then-n-records-clause-blanked
returns-then-n-records-clause-blanked c = λ h. blanked c.args.n c.args.records.now c.fill.new.self c.blank.result h c.blank.ensures (c.fill.ensures.after (λ y e. e))
