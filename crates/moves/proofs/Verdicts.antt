-- What is said of a message, part by part; what it comes to for a message that is judged; what a message that is not
-- refused has passed.
use Rattle.std.proofs.Common.{◌≡◌, ℕ, Bool, true, false, cond, not, ltb, leb, List, Some, None, Ok, Err, Option, Result, sym, refl, ap, ◌∙◌, arith}
use Rattle.base.specs.Pools.{members}
use Rattle.base.specs.declared.refusals.Refusal.{Refusal}
use Rattle.base.specs.declared.refusals.Refusal.TheVariants.{Misshapen, Stranger, PastHeight, LaterHeight, WrongRound, OutOfStage, OffChain, NotAdmitted, Contradiction, CandidatesFull, BooksEnd}
use Rattle.base.specs.declared.slips.Slip.{Slip}
use Rattle.judging.specs.Table.{leads_to, stage_after}
use Rattle.judging.proofs.Staged.{takes_by_kind}
use Rattle.message.specs.Contents.{Sent}
use Rattle.message.specs.Encoding.{kind_in}
use Rattle.message.specs.RoundTrip.{fields}
use Rattle.protocol.specs.Judging.{height_in, round_in, familiar, checks_of, bad_seal, round_taken, stage_takes, slip_in, on_chain, of_slip, contradicts, placed, goes_on}
use Rattle.protocol.specs.Messages.{plan_of, unless_bad, judged_sent, judged_fields, judge_message}
use Rattle.protocol.specs.Plans.{unless}
use Rattle.protocol.specs.State.{Box}
use Rattle.std.proofs.lemmas.Bool.{leb-true, not-true}
use Rattle.moves.specs.Refusing.{firstly}
use Rattle.moves.specs.Verdict.{or_next, arrival, slip_verdict, standing, verdict}

-- part by part ----------------------------------------------------------------------------------------------------

refused_at : (a next : Option Refusal) (why : Refusal) → Some why ≡ a → Some why ≡ or_next a next
refused_at a next why is = ap (λ x. or_next x next) is

goes_past : (a next x : Option Refusal) → None ≡ a → x ≡ next → x ≡ or_next a next
goes_past a next x is then = then ∙ ap (λ y. or_next y next) is

module _ (b : Box) (s : Sent (List ℕ)) (knows : ℕ → List ℕ → List ℕ → Bool) (known : b.sealer.knows ≡ knows) (arrived : None ≡ arrival b.settings.pool b.view s) where
  same_seals : bad_seal knows (checks_of s.head s.content) ≡ bad_seal b.sealer.knows (checks_of s.head s.content)
  same_seals = ap (λ k. bad_seal k (checks_of s.head s.content)) (sym known)

  -- a seal is not recognised
  pub seal_refused : (why : Refusal) → Some why ≡ bad_seal knows (checks_of s.head s.content) → Some why ≡ verdict b s
  seal_refused why is = goes_past _ _ _ arrived (refused_at _ _ why (is ∙ same_seals))

  module _ (sealed : None ≡ bad_seal knows (checks_of s.head s.content)) (page : Option Slip) (about : page ≡ slip_in s.content) where
    same_slip : slip_verdict (b.rules.admits b.view.height) b.view.last page ≡ slip_verdict (b.rules.admits b.view.height) b.view.last (slip_in s.content)
    same_slip = ap (slip_verdict (b.rules.admits b.view.height) b.view.last) about

    -- its slip is off the chain, or not admitted
    pub slip_refused : (why : Refusal) → Some why ≡ slip_verdict (b.rules.admits b.view.height) b.view.last page → Some why ≡ verdict b s
    slip_refused why is = goes_past _ _ _ arrived (goes_past _ _ _ (sealed ∙ same_seals) (refused_at _ _ why (is ∙ same_slip)))

    -- the state decides
    pub state_decides : (own : ℕ) (x : Option Refusal) → own ≡ b.sealer.number → None ≡ slip_verdict (b.rules.admits b.view.height) b.view.last page → x ≡ standing own b.view s → x ≡ verdict b s
    state_decides own x mine good is =
        goes_past _ _ _ arrived (goes_past _ _ _ (sealed ∙ same_seals) (goes_past _ _ _ (good ∙ same_slip) (is ∙ ap (λ n. standing n b.view s) mine)))

-- what it comes to ------------------------------------------------------------------------------------------------

module _ {X : Type 0} (rest : Result X Refusal) where
  -- one test before others
  before : (t : Bool) (why : Refusal) (o : Option Refusal) → cond t (unless_bad o rest) (Err why) ≡ unless_bad (firstly t why o) rest
  before true why o = refl
  before false why o = refl

  one_after : (a o : Option Refusal) → unless_bad a (unless_bad o rest) ≡ unless_bad (or_next a o) rest
  one_after None o = refl
  one_after (Some why) o = refl

  one_test : (t : Bool) (why : Refusal) → cond t rest (Err why) ≡ unless_bad (firstly t why None) rest
  one_test t why = before t why None

  two_tests : (t u : Bool) (a e : Refusal) → unless t a (unless u e rest) ≡ unless_bad (firstly t a (firstly u e None)) rest
  two_tests t u a e = ap (unless t a) (one_test u e) ∙ before t a _

  three_tests : (t u v : Bool) (a e i : Refusal) → unless t a (unless u e (unless v i rest)) ≡ unless_bad (firstly t a (firstly u e (firstly v i None))) rest
  three_tests t u v a e i = ap (unless t a) (two_tests u v e i) ∙ before t a _

  five_tests : (t u v w x : Bool) (a e i o k : Refusal) → unless t a (unless u e (unless v i (unless w o (unless x k rest)))) ≡ unless_bad (firstly t a (firstly u e (firstly v i (firstly w o (firstly x k None))))) rest
  five_tests t u v w x a e i o k = ap (unless t a) (ap (unless u e) (three_tests v w x i o k) ∙ before u e _) ∙ before t a _

-- a message is judged by what is said of it: refused, or planned
pub judged_verdict : (b : Box) (m : List ℕ) (s : Sent (List ℕ)) → judged_sent b m s ≡ unless_bad (verdict b s) (Ok (plan_of b m s.head s.content))
judged_verdict b m s =
    let done = Ok (plan_of b m s.head s.content)
    in let v = b.view
    in let last = standing b.sealer.number v s
    in let slip = slip_verdict (b.rules.admits v.height) v.last (slip_in s.content)
    in let seals = bad_seal b.sealer.knows (checks_of s.head s.content)
    in five_tests _ (leb v.height (height_in s.head)) (leb (height_in s.head) v.height) (familiar b.settings.pool s) (round_taken v s.head s.content) (stage_takes v s.head s.content) PastHeight LaterHeight Stranger WrongRound OutOfStage
    ∙ ap (λ r. unless_bad (arrival b.settings.pool v s) (unless_bad seals r))
    (two_tests _ (of_slip (on_chain v.last) (slip_in s.content)) (of_slip (b.rules.admits v.height) (slip_in s.content)) OffChain NotAdmitted
    ∙ ap (unless_bad slip) (three_tests done (not (contradicts b.sealer.number v s.head s.content)) (placed v s.head s.content) (goes_on v s.content) Contradiction CandidatesFull BooksEnd)
    ∙ one_after done slip last)
    ∙ ap (unless_bad (arrival b.settings.pool v s)) (one_after done seals (or_next slip last))
    ∙ one_after done (arrival b.settings.pool v s) (or_next seals (or_next slip last))

pub judged_refused : (b : Box) (m : List ℕ) (s : Sent (List ℕ)) (why : Refusal) → verdict b s ≡ Some why → judged_sent b m s ≡ Err why
judged_refused b m s why is = judged_verdict b m s ∙ ap (λ o. unless_bad o (Ok (plan_of b m s.head s.content))) is

pub judged_passed : (b : Box) (m : List ℕ) (s : Sent (List ℕ)) → verdict b s ≡ None → judged_sent b m s ≡ Ok (plan_of b m s.head s.content)
judged_passed b m s is = judged_verdict b m s ∙ ap (λ o. unless_bad o (Ok (plan_of b m s.head s.content))) is

-- what it has passed ----------------------------------------------------------------------------------------------

-- a message that is not refused: each test came out true
pub record Passed (b : Box) (s : Sent (List ℕ)) : Type 0 where
  pub this_height : height_in s.head ≡ b.view.height
  pub no_stranger : familiar b.settings.pool s ≡ true
  pub right_round : round_taken b.view s.head s.content ≡ true
  pub in_stage : stage_takes b.view s.head s.content ≡ true
  pub well_sealed : bad_seal b.sealer.knows (checks_of s.head s.content) ≡ None
  pub on_chain : of_slip (on_chain b.view.last) (slip_in s.content) ≡ true
  pub admitted : of_slip (b.rules.admits b.view.height) (slip_in s.content) ≡ true
  pub no_contradiction : contradicts b.sealer.number b.view s.head s.content ≡ false
  pub has_place_lem : placed b.view s.head s.content ≡ true
  pub book_goes_on : goes_on b.view s.content ≡ true

passed_test : (t : Bool) (why : Refusal) (next : Option Refusal) → firstly t why next ≡ None → (t ≡ true) × (next ≡ None)
passed_test true why next is = (refl, is)
passed_test false why next is = absurd (let z : ◌≡◌ {A = ℕ} 0 1 = cc in omega arith)

passed_part : (a next : Option Refusal) → or_next a next ≡ None → (a ≡ None) × (next ≡ None)
passed_part None next is = (refl, is)
passed_part (Some why) next is = absurd (let z : ◌≡◌ {A = ℕ} 0 1 = cc in omega arith)

pub passed : (b : Box) (s : Sent (List ℕ)) → verdict b s ≡ None → Passed b s
passed b s is =
    let p = passed_part (arrival b.settings.pool b.view s) _ is
    in let q = passed_part (bad_seal b.sealer.knows (checks_of s.head s.content)) _ p.1
    in let r = passed_part (slip_verdict (b.rules.admits b.view.height) b.view.last (slip_in s.content)) (standing b.sealer.number b.view s) q.1
    in let not-past = passed_test (leb b.view.height (height_in s.head)) PastHeight _ p.0
    in let not-later = passed_test (leb (height_in s.head) b.view.height) LaterHeight _ not-past.1
    in let speaks = passed_test (familiar b.settings.pool s) Stranger _ not-later.1
    in let rounds = passed_test (round_taken b.view s.head s.content) WrongRound _ speaks.1
    in let stages = passed_test (stage_takes b.view s.head s.content) OutOfStage None rounds.1
    in let chain = passed_test (of_slip (on_chain b.view.last) (slip_in s.content)) OffChain _ r.0
    in let admits = passed_test (of_slip (b.rules.admits b.view.height) (slip_in s.content)) NotAdmitted None chain.1
    in let clash = passed_test (not (contradicts b.sealer.number b.view s.head s.content)) Contradiction _ r.1
    in let place = passed_test (placed b.view s.head s.content) CandidatesFull _ clash.1
    in let book = passed_test (goes_on b.view s.content) BooksEnd None place.1
    in record {
      this_height = omega (arith, leb-true b.view.height (height_in s.head) not-past.0, leb-true (height_in s.head) b.view.height not-later.0);
      no_stranger = speaks.0;
      right_round = rounds.0;
      in_stage = stages.0;
      well_sealed = q.0;
      on_chain = chain.0;
      admitted = admits.0;
      no_contradiction = not-true _ clash.0;
      has_place_lem = place.0;
      book_goes_on = book.0;
    }

-- its kind alone says where it leads
pub passed_leads : (b : Box) (s : Sent (List ℕ)) → Passed b s → stage_after b.view.stage (kind_in s.content) (ltb b.view.round (round_in s.head)) ≡ leads_to b.view.stage (kind_in s.content)
passed_leads b s p =
    ap (λ t. cond t (leads_to b.view.stage (kind_in s.content)) b.view.stage) (sym (takes_by_kind b.view s.head s.content) ∙ p.in_stage)

-- the judgement on bytes --------------------------------------------------------------------------------------------

module _ (b : Box) (m : List ℕ) (n : ℕ) (long : b.sealer.long ≡ n) (member : true ≡ ltb b.sealer.number (members b.settings.pool)) where
  by_fields : judge_message b m ≡ judged_fields b m (fields b.settings.pool n m)
  by_fields = ap (λ t. unless t Stranger (judged_fields b m (fields b.settings.pool b.sealer.long m))) (sym member) ∙ ap (λ k. judged_fields b m (fields b.settings.pool k m)) long

  pub judged_none : fields b.settings.pool n m ≡ None → Err Misshapen ≡ judge_message b m
  judged_none is = sym (by_fields ∙ ap (judged_fields b m) is)

  pub judged_some : (s : Sent (List ℕ)) → fields b.settings.pool n m ≡ Some s → judged_sent b m s ≡ judge_message b m
  judged_some s is = sym (by_fields ∙ ap (judged_fields b m) is)
