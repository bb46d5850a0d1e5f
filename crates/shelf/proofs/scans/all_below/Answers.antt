use Rattle.std.proofs.Common.{◌∙◌, rules, tests}
use Rattle.std.proofs.lemmas.Iterator.{YieldsList-from_slice}
use Rattle.std.proofs.lemmas.Iterator.Search.{all_from_yields_List}
use Rattle.std.specs.Option.{option_map}
use Rattle.protocol.specs.Judging.{above_all}
use Rattle.protocol.specs.Rounds.{lock_in}
use Rattle.shelf.specs.Views.{round_view}
use Rattle.shelf.specs.declared.candidates.Candidate.{Candidate}
use Rattle.shelf.proofs.Gathering.{above_every}
use Rattle.shelf.proofs.scans.all_below.Goals as goal

pub returns : goal.returns
returns c =
    let cs = c.args.candidates.now in
    let r = c.args.round.0 in
    all_from_yields_List (λ (d : Candidate). above_all r (lock_in d.slip (option_map round_view d.lock))) _ _ _ c.all.ensures.ran (YieldsList-from_slice cs cc) (λ x b q k. search (rules, tests))
    ∙ above_every r cs
