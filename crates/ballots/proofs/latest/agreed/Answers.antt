use Rattle.std.proofs.Common.{Option, ◌∙◌, sym, rules, tests}
use Rattle.std.proofs.lemmas.Iterator.{YieldsList-from_slice}
use Rattle.std.proofs.lemmas.Iterator.Consumers.{YieldsList-from_filter_map}
use Rattle.std.proofs.lemmas.Iterator.Search.{find_from_yields_List}
use Rattle.std.proofs.lemmas.Iterator.Adapters.{option_map_id}
use Rattle.std.specs.Option.{option_map}
use Rattle.protocol.specs.Turns.{agreed_slip, page_of}
use Rattle.ballots.specs.Views.{latest_view, latest_list}
use Rattle.ballots.specs.declared.latest.Latest.{Latest}
use Rattle.ballots.proofs.Calling.{agreed_found}
use Rattle.ballots.proofs.latest.agreed.Goals as goal

pub returns : goal.returns
returns c =
    let xs = c.args.latest.now in
    let q = c.args.quorum in
    let r = c.args.round.0 in
    sym (option_map_id c.find.result)
    ∙ find_from_yields_List (agreed_slip q r (latest_list xs)) _ _ _ c.find.ensures.ran
    (YieldsList-from_filter_map _ (λ (o : Option Latest). page_of (option_map latest_view o)) (YieldsList-from_slice xs cc) c.filter_map.ensures.closure (λ x r q k. search (rules, tests)))
    (λ x b q k. search (rules, tests))
    ∙ agreed_found q r (latest_list xs) xs
