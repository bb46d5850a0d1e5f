use Rattle.std.proofs.Common.{◌≡◌, ℕ, List, [], ◌∷◌, ◌+◌, ◌≤◌, length, sym, ap, ◌∙◌, rules, tests, arith}
use Rattle.std.proofs.lemmas.Result.{err_from_is_err_and}
use Rattle.base.specs.Refusals.{passing}
use Rattle.message.specs.Layout.{Entry, left}
use Rattle.message.specs.Views.{place_of, entry_of}
use Rattle.protocol.specs.Judging.{Check, bad_seal, vote_checks}
use Rattle.judging.specs.Views.{votes_in}
use Rattle.judging.proofs.Firsts.{one_stands, stops_at}
use Rattle.judging.proofs.sealing.Seals.votes.Goals as goal

pub loop-vote-preserved : goal.loop-vote-preserved
loop-vote-preserved g c =
    let knows = g.C.Checker.recognised c.args.self.now.checker.now in
    let inside = c.args.self.now.inside in
    let before = c.loop-vote.vote-iterator in
    let after = c.next.new.self in
    let vote = c.in-Some.vote in
    let steps = c.in-Some.ensures.steps in
    let rest = left (place_of after.a) in
    let found = λ (n : ℕ) (es : List Entry). bad_seal knows (vote_checks n inside c.args.statement.now (votes_in es)) in
    let start : c.in-Some.place ≡ before.b.start = steps.1.0 in
    let next : after.b.start ≡ c.in-Some.place + 1 = steps.1.1 in
    let long : length (left (place_of before.a)) ≡ length (entry_of vote ∷ rest) = ap length steps.0.0 in
    let inv = c.loop-vote.invariant in
    let check : ℕ → Check = λ n. record { place = n; inside = inside; signer = vote.member.0; statement = c.args.statement.now; seal = vote.part.bytes.now } in
    let shown : length (left (place_of c.args.votes)) ≤ 7 → c.min.result ≡ c.in-Some.place
    = λ few. let was = (inv.3 few).0 in let least = c.min.ensures in omega arith in
    let stands : length (left (place_of c.args.votes)) ≤ 7 → found c.in-Some.place (entry_of vote ∷ rest) ≡ found (c.in-Some.place + 1) rest
    = λ few. one_stands knows (check c.in-Some.place) (vote_checks (c.in-Some.place + 1) inside c.args.statement.now (votes_in rest)) (c.in_ok-check.ensures ∙ ap (λ n. passing (bad_seal knows (check n ∷ []))) (shown few)) in (
      (tt, tt),
      tt,
      search (rules, tests),
      λ few. (
        let was = (inv.3 few).0 in omega arith,
        ap (λ n. found n rest) next ∙ sym (stands few) ∙ ap (λ n. found n (entry_of vote ∷ rest)) start ∙ ap (found before.b.start) (sym steps.0.0) ∙ (inv.3 few).1,
      ),
    )

pub returns-in_err-check : goal.returns-in_err-check
returns-in_err-check g c = λ w few.
    let knows = g.C.Checker.recognised c.args.self.now.checker.now in
    let inside = c.args.self.now.inside in
    let before = c.loop-vote.vote-iterator in
    let after = c.next.new.self in
    let vote = c.in-Some.vote in
    let steps = c.in-Some.ensures.steps in
    let rest = left (place_of after.a) in
    let found = λ (n : ℕ) (es : List Entry). bad_seal knows (vote_checks n inside c.args.statement.now (votes_in es)) in
    let start : c.in-Some.place ≡ before.b.start = steps.1.0 in
    let same : found c.in-Some.place (entry_of vote ∷ rest) ≡ found 2 (left (place_of c.args.votes))
    = ap (λ n. found n (entry_of vote ∷ rest)) start ∙ ap (found before.b.start) (sym steps.0.0) ∙ (c.loop-vote.invariant.3 few).1 in
    let check : ℕ → Check = λ n. record { place = n; inside = inside; signer = vote.member.0; statement = c.args.statement.now; seal = vote.part.bytes.now } in
    let shown : c.min.result ≡ c.in-Some.place = let was = (c.loop-vote.invariant.3 few).0 in let least = c.min.ensures in omega arith in
    let p = err_from_is_err_and c.from_residual.result c.from_residual.ensures.1 in
    rw (p.1, p.2, sym same) (stops_at knows (check c.in-Some.place ∷ []) (vote_checks (c.in-Some.place + 1) inside c.args.statement.now (votes_in rest)) c.in_err-check.field-0.0 (c.in_err-check.ensures ∙ ap (λ n. passing (bad_seal knows (check n ∷ []))) shown))
