use Rattle.std.proofs.Common.{◌∙◌, rules, tests}
use Rattle.std.proofs.lemmas.Iterator.{YieldsList-from_slice}
use Rattle.std.proofs.lemmas.Iterator.Consumers.{YieldsList-from_filter, count_from_yields_List}
use Rattle.std.proofs.lemmas.List.Sums.{length-filter}
use Rattle.ballots.proofs.Counting.{tally_counts}
use Rattle.ballots.proofs.tallies.count.Goals as goal

pub returns : goal.returns
returns g c =
    let test = λ (b : g.row.B.Denot). g.B.Ballot.backed b c.args.asked.now in
    count_from_yields_List c.filter.result _ c.count.ensures.ran (YieldsList-from_filter _ test (YieldsList-from_slice c.args.records.now cc) c.filter.ensures.closure (λ x r q k. search (rules, tests)))
    ∙ length-filter test c.args.records.now
    ∙ tally_counts test c.args.records.now
