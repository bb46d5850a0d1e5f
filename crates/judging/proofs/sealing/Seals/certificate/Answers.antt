use Rattle.std.proofs.Common.{[], ◌∷◌, Some, ap, ◌∙◌}
use Rattle.base.specs.Refusals.{passing}
use Rattle.message.specs.Views.{place_of}
use Rattle.protocol.specs.Judging.{height_in, round_in, bad_seal, vote_checks}
use Rattle.protocol.specs.Rounds.{says}
use Rattle.judging.specs.Parts.{own_check}
use Rattle.judging.specs.Views.{votes_at}
use Rattle.judging.proofs.Firsts.{goes_on}
use Rattle.judging.proofs.sealing.Seals.certificate.Goals as goal

pub returns : goal.returns
returns g c = λ w.
    let knows = g.C.Checker.recognised c.args.self.now.checker.now in
    let inside = c.args.self.now.inside in
    let head = c.args.self.now.head in
    let cert = c.args.c.now in
    let votes = votes_at (place_of cert.votes) in
    goes_on knows (own_check inside 1 head c.args.own (Some cert.slip) cert.own.bytes.now ∷ []) (vote_checks 2 inside (says c.args.others (height_in head) (round_in head) c.args.page) votes) c.votes.result c.in_ok-own.ensures
    (c.votes.ensures w.votes_whole w.votes_few ∙ ap (λ s. passing (bad_seal knows (vote_checks 2 inside s votes))) c.says.ensures)
