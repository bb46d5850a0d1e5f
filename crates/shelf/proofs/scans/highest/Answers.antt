use Rattle.std.proofs.Common.{◌≡◌, List, reverse, refl, sym, ap, ◌∙◌, rules, tests}
use Rattle.std.specs.Iterator.Adapters.{rev_steps}
use Rattle.std.specs.Slice.Iter.{iter_steps_back}
use Rattle.std.proofs.lemmas.Fn.{fold_over}
use Rattle.std.proofs.lemmas.List.{reverse-reverse}
use Rattle.std.proofs.lemmas.Iterator.Adapters.{YieldsList-from_rev_slice}
use Rattle.std.specs.Option.{option_map}
use Rattle.protocol.specs.Rounds.{locks_of, highest_lock}
use Rattle.shelf.specs.Locks.{lock_view, higher_of}
use Rattle.shelf.specs.Views.{round_view, held_view}
use Rattle.shelf.specs.declared.candidates.Candidate.{Candidate}
use Rattle.shelf.proofs.Gathering.{views, one_more, higher_first}
use Rattle.shelf.proofs.scans.highest.Goals as goal

pub returns : goal.returns
returns c =
    let cs = c.args.candidates.now in
    let h = option_map held_view c.args.held.now in
    let F = λ (ds : List Candidate). highest_lock h (locks_of (views ds)) in
    fold_over (rev_steps iter_steps_back) (λ y. y.now) _ (λ ds a. option_map lock_view a ≡ F (reverse ds)) _
    (λ ds a x b f' j k.
    let is : option_map lock_view b ≡ higher_of h x.now.slip (option_map round_view x.now.lock) (option_map lock_view a) = search (rules, tests) in
    (one_more F ds x.now (option_map lock_view b) (is ∙ ap (higher_of h x.now.slip (option_map round_view x.now.lock)) j ∙ sym (higher_first h x.now.slip (option_map round_view x.now.lock) (locks_of (views (reverse ds))))), search (rules, tests)))
    c.rev.result _ _ _ (YieldsList-from_rev_slice {s = c.rev.result} cs cc).runs refl c.fold.ensures.ran
    ∙ ap F (reverse-reverse cs)
