use Rattle.std.proofs.Common.{◌≡◌, List, reverse, refl, sym, ap, ◌∙◌, rules, tests}
use Rattle.std.specs.Iterator.Adapters.{rev_steps}
use Rattle.std.specs.Slice.Iter.{iter_steps_back}
use Rattle.std.proofs.lemmas.Fn.{fold_over}
use Rattle.std.proofs.lemmas.List.{reverse-reverse}
use Rattle.std.proofs.lemmas.Iterator.Adapters.{YieldsList-from_rev_slice}
use Rattle.std.specs.Option.{option_map}
use Rattle.protocol.specs.Rounds.{locks_of}
use Rattle.shelf.specs.Locks.{in_locks, more_locks}
use Rattle.shelf.specs.Views.{round_view}
use Rattle.shelf.specs.declared.candidates.Candidate.{Candidate}
use Rattle.shelf.proofs.Gathering.{views, one_more, more_first}
use Rattle.shelf.proofs.scans.locks_of.Goals as goal

pub returns : goal.returns
returns c =
    let cs = c.args.candidates.now in
    let F = λ (ds : List Candidate). in_locks (locks_of (views ds)) in
    fold_over (rev_steps iter_steps_back) (λ y. y.now) _ (λ ds a. a ≡ F (reverse ds)) _
    (λ ds a x b f' j k.
    let is : b ≡ more_locks x.now.slip (option_map round_view x.now.lock) a = search (rules, tests) in
    (one_more F ds x.now b (is ∙ ap (more_locks x.now.slip (option_map round_view x.now.lock)) j ∙ sym (more_first x.now.slip (option_map round_view x.now.lock) (locks_of (views (reverse ds))))), search (rules, tests)))
    c.rev.result _ _ _ (YieldsList-from_rev_slice {s = c.rev.result} cs cc).runs refl c.fold.ensures.ran
    ∙ ap F (reverse-reverse cs)
