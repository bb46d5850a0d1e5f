use Rattle.std.proofs.Common.{◌≡◌, ◌+◌, ◌-◌, ◌<◌, ◌≤◌, ℕ, true, cond, List, [], ◌∷◌, ◌++◌, length, sym, ap, ◌∙◌, ⊎_elim, arith}
use Rattle.std.proofs.lemmas.Bool.{lt-ltb}
use Rattle.std.specs.Range.{range_inclusive_len}
use Rattle.std.specs.Slice.Iter.{iter_rest}
use Rattle.base.specs.Bounded.{items}
use Rattle.base.specs.declared.seals.Vote.{Vote}
use Rattle.ballots.proofs.Counting.{left_of, next_is, whole, whole_none, whole_full, whole_all, whole_same, whole_more}
use Rattle.ballots.proofs.tallies.lowest.Goals as goal

pub loop-record-init : goal.loop-record-init
loop-record-init g c =
    let test = λ (b : g.row.B.Denot). g.B.Ballot.backed b c.args.asked.now in
    let seal = λ (b : g.row.B.Denot). g.B.Ballot.given b c.args.asked.now in
    let xs = c.args.records.now in
    let q = c.args.quorum in
    let it = c.into_iter-record-iterator.result in
    let gives = c.into_iter-record-iterator.ensures.into_iter_gives in
    let b-is : it.b ≡ c.new.result = (λ i. (gives i).b) ∙ c.zip-record-items.ensures.second in
    let a-is : it.a ≡ c.iter.result = (λ i. (gives i).a) ∙ c.zip-record-items.ensures.first in
    let all : left_of it.b ≡ 256 = ap left_of b-is ∙ (λ i. range_inclusive_len (λ (a z : ℕ). z - a) (c.new.ensures.start i) (c.new.ensures.end i) (c.new.ensures.exhausted i)) in
    let rest : iter_rest it.a ≡ xs = ap iter_rest a-is ∙ c.iter.ensures.rest in
    let long : length (iter_rest it.a) ≡ length xs = ap length rest in
    let none : 256 - left_of it.b ≡ 0 = omega arith in (
      (λ i. (b-is i).end) ∙ c.new.ensures.end,
      omega arith,
      (λ many. omega arith),
      λ few.
          (λ i. whole test seal q (none i) (rest i) (c.empty-votes.ensures i)) ∙ whole_none test seal q xs,
    )

pub returns-then-as_slice-quorum-clause-votes : goal.returns-then-as_slice-quorum-clause-votes
returns-then-as_slice-quorum-clause-votes g c = λ few many.
    let test = λ (b : g.row.B.Denot). g.B.Ballot.backed b c.args.asked.now in
    let seal = λ (b : g.row.B.Denot). g.B.Ballot.given b c.args.asked.now in
    let it = c.loop-record.record-iterator in
    let votes = items c.loop-record.votes in
    let long : length c.as_slice.result.now ≡ length votes = ap length c.as_slice.ensures.is in
    let enough : c.args.quorum ≤ length votes = omega arith in
    sym (whole_full test seal c.args.quorum (256 - left_of it.b) (iter_rest it.a) votes enough) ∙ c.loop-record.invariant.3 few

pub loop-record-preserved-in-Some-seal : goal.loop-record-preserved-in-Some-seal
loop-record-preserved-in-Some-seal g c =
    let test = λ (b : g.row.B.Denot). g.B.Ballot.backed b c.args.asked.now in
    let seal = λ (b : g.row.B.Denot). g.B.Ballot.given b c.args.asked.now in
    let q = c.args.quorum in
    let before = c.loop-record.record-iterator in
    let after = c.next.new.self in
    let x = c.in-Some.record.now in
    let steps = c.in-Some.ensures.steps in
    let inv = c.loop-record.invariant in
    let votes = items c.loop-record.votes in
    let fewer : left_of after.b + 1 ≡ left_of before.b = steps.1.1.1 in
    let shorter : length (iter_rest before.a) ≡ length (x ∷ iter_rest after.a) = ap length steps.0 in
    let small = inv.1 in
    let next : 256 - left_of after.b ≡ 256 - left_of before.b + 1 = omega arith in
    let named : c.in-Some.member ≡ 256 - left_of before.b = steps.1.1.0 ∙ next_is before.b inv.0 (omega arith) in
    let long : length c.as_slice.result.now ≡ length votes = ap length c.as_slice.ensures.is in
    let less : length votes < q = omega arith in
    let v : Vote = record { member = record { 0 = c.in-Some.member }; seal = c.in-Some-seal.seal } in (
      steps.1.0 ∙ inv.0,
      omega arith,
      (λ many. let was = inv.2 many in omega arith),
      λ few.
          let room : length votes < g.row.N = omega arith in
          let fits : c.push.result ≡ true = c.push.ensures.fits ∙ lt-ltb (length votes) g.row.N room in
          let kept : items c.push.new.self ≡ votes ++ v ∷ [] = c.push.ensures.items ∙ ap (λ b. cond b (votes ++ v ∷ []) votes) fits in
          (λ i. whole test seal q (next i) (iter_rest after.a) (kept i))
          ∙ sym (whole_more test seal q (256 - left_of before.b) x (iter_rest after.a) votes v named c.in-Some-seal.ensures less)
          ∙ ap (λ ys. whole test seal q (256 - left_of before.b) ys votes) (sym steps.0)
          ∙ inv.3 few,
    )

pub loop-record-preserved : goal.loop-record-preserved
loop-record-preserved g c =
    let test = λ (b : g.row.B.Denot). g.B.Ballot.backed b c.args.asked.now in
    let seal = λ (b : g.row.B.Denot). g.B.Ballot.given b c.args.asked.now in
    let q = c.args.quorum in
    let before = c.loop-record.record-iterator in
    let after = c.next.new.self in
    let x = c.in-Some.record.now in
    let steps = c.in-Some.ensures.steps in
    let inv = c.loop-record.invariant in
    let votes = items c.loop-record.votes in
    let fewer : left_of after.b + 1 ≡ left_of before.b = steps.1.1.1 in
    let shorter : length (iter_rest before.a) ≡ length (x ∷ iter_rest after.a) = ap length steps.0 in
    let small = inv.1 in
    let next : 256 - left_of after.b ≡ 256 - left_of before.b + 1 = omega arith in (
      steps.1.0 ∙ inv.0,
      omega arith,
      (λ many. let was = inv.2 many in omega arith),
      λ few.
          ap (λ n. whole test seal q n (iter_rest after.a) votes) next
          ∙ sym (whole_same test seal q (256 - left_of before.b) x (iter_rest after.a) votes c.in_default.ensures)
          ∙ ap (λ ys. whole test seal q (256 - left_of before.b) ys votes) (sym steps.0)
          ∙ inv.3 few,
    )

pub returns-clause-votes : goal.returns-clause-votes
returns-clause-votes g c = λ few many.
    let test = λ (b : g.row.B.Denot). g.B.Ballot.backed b c.args.asked.now in
    let seal = λ (b : g.row.B.Denot). g.B.Ballot.given b c.args.asked.now in
    let it = c.loop-record.record-iterator in
    let inv = c.loop-record.invariant in
    let fits = inv.2 many in
    let ended : length (iter_rest it.a) ≤ 0 = ⊎_elim (λ e. let none = e.1.0 in omega arith) (λ e. let none = e.1.1.0 in omega arith) c.in-None.ensures.steps in
    sym (whole_all test seal c.args.quorum (256 - left_of it.b) (iter_rest it.a) (items c.loop-record.votes) ended) ∙ inv.3 few
