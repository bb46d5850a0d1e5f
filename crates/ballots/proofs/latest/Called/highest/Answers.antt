use Rattle.std.proofs.Common.{ap, ◌∙◌, rules, tests}
use Rattle.std.proofs.lemmas.Iterator.{YieldsList-from_slice}
use Rattle.std.proofs.lemmas.Iterator.Consumers.{YieldsList-at, YieldsList-from_filter, YieldsList-from_filter_map, reduce_from_yields_List}
use Rattle.std.specs.Option.{option_map}
use Rattle.base.specs.declared.counters.Round.{Round}
use Rattle.ballots.specs.Asking.{calls_for}
use Rattle.ballots.specs.Views.{latest_list, round_number, round_in}
use Rattle.ballots.proofs.Calling.{greater, highest_found}
use Rattle.ballots.proofs.latest.Called.highest.Goals as goal

pub returns : goal.returns
returns c =
    let xs = c.args.latest.now in
    let self = c.args.self.now in
    let test = calls_for self.own.0 self.resting self.tolerance (latest_list xs) in
    ap (option_map round_number) (reduce_from_yields_List greater c.filter.result c.max.result c.max.ensures.ran
    (YieldsList-from_filter _ (λ (r : Round). test r.0)
    (YieldsList-at c.filter.ensures.source (YieldsList-from_filter_map _ (option_map round_in) (YieldsList-from_slice xs cc) c.filter_map.ensures.closure (λ x r q k. search (rules, tests))))
    c.filter.ensures.closure (λ x b q k. search (rules, tests))))
    ∙ highest_found test xs
