use Rattle.std.proofs.Common.{◌≡◌, List, Some, Option, reverse, refl, ap, ◌∙◌, rules, tests}
use Rattle.std.specs.Iterator.Adapters.{rev_steps}
use Rattle.std.specs.Slice.Iter.{iter_steps_back}
use Rattle.std.proofs.lemmas.Fn.{fold_over}
use Rattle.std.proofs.lemmas.List.{reverse-reverse}
use Rattle.std.proofs.lemmas.Iterator.Adapters.{YieldsList-from_rev_slice}
use Rattle.base.specs.declared.slips.Slip.{Slip}
use Rattle.protocol.specs.Rounds.{better_of, top_of}
use Rattle.shelf.specs.declared.candidates.Candidate.{Candidate}
use Rattle.shelf.proofs.Gathering.{views, one_more}
use Rattle.shelf.proofs.scans.top_of.Goals as goal

pub returns : goal.returns
returns g c =
    let cs = c.args.candidates.now in
    let above = g.R.Rulebook.ranked c.args.rules.now in
    let F = λ (ds : List Candidate). top_of above (views ds) in
    fold_over (rev_steps iter_steps_back) (λ y. y.now) _ (λ ds a. a ≡ F (reverse ds)) _
    (λ ds a x b f' j k.
    let is : b ≡ Some (better_of above x.now.slip a) = search (rules, tests) in
    (one_more F ds x.now b (is ∙ ap (λ (o : Option Slip). Some (better_of above x.now.slip o)) j), search (rules, tests)))
    c.rev.result _ _ _ (YieldsList-from_rev_slice {s = c.rev.result} cs cc).runs refl c.fold.ensures.ran
    ∙ ap F (reverse-reverse cs)
