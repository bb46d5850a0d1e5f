-- Judging a commit.
use Rattle.std.proofs.Common.{◌≡◌, ℕ, ◌<◌, ◌≤◌, Bool, cond, ◌&&◌, List, length, get_or, Some, None, Ok, Err, Option, Result, sym, ap, ◌∙◌, subst, arith, w8, Fits, le-leb}
use Rattle.base.specs.Numbers.{Bytes}
use Rattle.base.specs.Seals.{kept}
use Rattle.base.specs.Slips.{one_page}
use Rattle.base.specs.declared.pools.Pool.{Pool}
use Rattle.base.specs.declared.refusals.Refusal.{Refusal}
use Rattle.base.specs.declared.refusals.Refusal.TheVariants.{Stranger, FewRecords, OffChain, NotAdmitted, Contradiction}
use Rattle.base.specs.declared.slips.Slip.{Slip}
use Rattle.message.specs.Contents.{Content, change, lock, select, commit, decide, release, Sent}
use Rattle.message.specs.Encoding.{LawfulContent}
use Rattle.message.specs.RoundTrip.{fields, RoundTrip}
use Rattle.message.specs.declared.shapes.Head.{Head}
use Rattle.protocol.specs.Judging.{sender_in, checks_of, bad_seal, on_chain}
use Rattle.protocol.specs.Messages.{of_member, unless_bad}
use Rattle.protocol.specs.Plans.{Plan, unless}
use Rattle.protocol.specs.State.{Box}
use Rattle.protocol.specs.Turns.{Counting, Records, enough, commit_in, judged_commit, judged_turn, judge_commit}
use Rattle.std.proofs.ByRecursion.{All-from_get_or}
use Rattle.turns.specs.Plans.{noting_plan, Keepable}
use Rattle.std.specs.Result.{result_and}
use Rattle.turns.proofs.Judged.{two_asked}

module _ (b : Box) (turn : Counting) (records : Records) (h : Head) (content : Content (List ℕ)) (s : Slip) (a : List ℕ) (is : content ≡ commit s a) where
  -- what is done with a good commit
  abbrev pub noting : List ℕ → Result (Plan Records) Refusal
  noting seal = Ok (noting_plan b turn.page records (sender_in h) (record { page = s; seal = seal }))

  abbrev pub paged : Result (Plan Records) Refusal → Result (Plan Records) Refusal
  paged rest =
      unless (on_chain b.view.last s) OffChain (unless (b.rules.admits b.view.height s) NotAdmitted (unless (one_page s turn.page) Contradiction rest))

  -- a seal of that length can be kept, and is kept as it is
  pub seal_kept : (seal : List ℕ) → Keepable (commit_in content) → Some seal ≡ kept a → noting seal ≡ noting a
  seal_kept seal keeps found =
      let k : kept a ≡ Some a = subst (λ x. Keepable (commit_in x)) is keeps
      in let e : seal ≡ a = cc
      in ap noting e

  module _ (recognised : ℕ → List ℕ → List ℕ → Bool) (knows : b.sealer.knows ≡ recognised) where
    judged : (o : Option Refusal) → o ≡ bad_seal recognised (checks_of h content) → unless_bad o (paged (noting a)) ≡ judged_commit b turn records h (commit_in content)
    judged o e =
        ap (λ x. unless_bad x (paged (noting a))) (e ∙ (λ i. bad_seal (sym knows i) (checks_of h (is i))))
        ∙ ap (λ x. judged_commit b turn records h (commit_in x)) (sym is)

    pub badly_sealed : (why : Refusal) → Some why ≡ bad_seal recognised (checks_of h content) → Err why ≡ judged_commit b turn records h (commit_in content)
    badly_sealed why e = judged (Some why) e

    pub well_sealed : (x : Result (Plan Records) Refusal) → None ≡ bad_seal recognised (checks_of h content) → x ≡ paged (noting a) → x ≡ judged_commit b turn records h (commit_in content)
    well_sealed x e r = r ∙ judged None e

-- what is asked of any call, and then what the message says, if it was read: that decides
module _ (b : Box) (turn : Counting) (records : Records) (message : List ℕ) (n : ℕ) (long : b.sealer.long ≡ n) where
  pub caller_asked : (r : Result Unit Refusal) → r ≡ of_member b (unless (enough b records) FewRecords (Ok tt)) → result_and r (judged_turn b turn records (fields b.settings.pool n message)) ≡ judge_commit b turn records message
  caller_asked r is =
      two_asked r _ _ Stranger FewRecords _ is
      ∙ ap (λ k. of_member b (unless (enough b records) FewRecords (judged_turn b turn records (fields b.settings.pool k message)))) (sym long)

  pub commit_judged : ◌≡◌ {A = Result (Unit {0}) Refusal} (Ok tt) (of_member b (unless (enough b records) FewRecords (Ok tt))) → (o : Option (Sent (List ℕ))) (x : Result (Plan Records) Refusal) → fields b.settings.pool n message ≡ o → x ≡ judged_turn b turn records o → x ≡ judge_commit b turn records message
  commit_judged asked o x is same = same ∙ ap (judged_turn b turn records) (sym is) ∙ caller_asked (Ok tt) asked

-- a seal of 1 to 80 bytes can be kept
module _ (pool : Pool) (n k : ℕ) (long : n ≡ k) (sizes : (1 ≤ k) × (k ≤ 80)) where
  keeps_seal : (a : List ℕ) → length a ≡ n → kept a ≡ Some a
  keeps_seal a e =
      let l = le-leb 1 (length a) (omega (arith, sizes.0))
      in let r = le-leb (length a) 80 (omega (arith, sizes.1))
      in λ i. cond (l i && r i) (Some a) None

  keeps_content : (h : Head) (c : Content (List ℕ)) → LawfulContent pool n h c → Keepable (commit_in c)
  keeps_content h (change page a b) f = tt
  keeps_content h (lock c) f = tt
  keeps_content h (select c) f = tt
  keeps_content h (commit s a) f = keeps_seal a f.1
  keeps_content h (decide c) f = tt
  keeps_content h (release l inner b) f = tt

  -- of bytes that were read
  pub keeps_read : (message : List ℕ) (s : Sent (List ℕ)) → RoundTrip → ((i : ℕ) → Fits w8 (get_or message i 0)) → fields pool n message ≡ Some s → Keepable (commit_in s.content)
  keeps_read message s law typed is =
      let bytes : Bytes message = All-from_get_or (λ x. x < 256) message 0 (λ i lt. omega (arith, typed i))
      in keeps_content s.head s.content (law.reads_lawful pool n message s bytes is).content_lawful
