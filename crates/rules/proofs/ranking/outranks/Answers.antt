use Rattle.std.proofs.Common.{◌≡◌, ◌∷◌, Some, length, sym, ap, ◌∙◌, rules}
use Rattle.std.specs.Ordering.{nat_cmp, partial_ordering_then, is_gt, is_some_and}
use Rattle.rules.specs.Pages.{rank_key}
use Rattle.rules.proofs.Lexical.{higher_compared, compared_fronts}
use Rattle.rules.proofs.ranking.outranks.Goals as goal

pub returns : goal.returns
returns c =
    let a = c.args.a.now
    in let b = c.args.b.now
    in let long : length a.own.0 ≡ length b.own.0 = search rules
    in let fronts = compared_fronts a.own.0 b.own.0 (a.second ∷ a.parent.0) (b.second ∷ b.parent.0) long
    in c.gt.ensures ∙ ap (λ o. is_some_and is_gt (partial_ordering_then (Some (nat_cmp a.first b.first)) o)) (sym fronts) ∙ higher_compared (rank_key a) (rank_key b)
