use Rattle.judging.proofs.Firsts.{at_holds}
use Rattle.judging.proofs.sealing.first_bad_seal.Goals as goal

pub returns-in-Change : goal.returns-in-Change
returns-in-Change g c =
    at_holds (g.C.Checker.recognised c.args.checker.now) c.args.m.now.head c.args.m.now.holds _ c.change.result c.in-Change.is (λ w. c.change.ensures)

pub returns-in-Commit : goal.returns-in-Commit
returns-in-Commit g c =
    at_holds (g.C.Checker.recognised c.args.checker.now) c.args.m.now.head c.args.m.now.holds _ c.own.result c.in-Commit.is (λ w. c.own.ensures)

pub returns-in-Release : goal.returns-in-Release
returns-in-Release g c =
    at_holds (g.C.Checker.recognised c.args.checker.now) c.args.m.now.head c.args.m.now.holds _ c.release.result c.in-Release.is c.release.ensures
