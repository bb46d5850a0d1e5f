use Rattle.std.proofs.Common.{◌∙◌, rules, tests}
use Rattle.std.proofs.lemmas.Iterator.{YieldsList-from_slice}
use Rattle.std.proofs.lemmas.Iterator.Search.{any_from_yields_List}
use Rattle.base.specs.Slips.{one_page}
use Rattle.shelf.specs.declared.candidates.Candidate.{Candidate}
use Rattle.shelf.proofs.Gathering.{known_any}
use Rattle.shelf.proofs.scans.knows.Goals as goal

pub returns : goal.returns
returns c =
    let cs = c.args.candidates.now in
    any_from_yields_List (λ (d : Candidate). one_page d.slip c.args.slip.now) _ _ _ c.any.ensures.ran (YieldsList-from_slice cs cc) (λ x b q k. search (rules, tests))
    ∙ known_any c.args.slip.now cs
