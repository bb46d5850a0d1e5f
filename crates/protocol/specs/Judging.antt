-- What is judged of a message: who speaks, for which round, under which seals, about which slip.
use Rattle.std.specs.Prelude.{ℕ, ◌+◌, Bool, true, false, cond, not, ◌&&◌, ◌||◌, List, [], ◌∷◌, ◌++◌, Some, None, Option, ◌==◌, nat_le, nat_lt, slice_index_or}
use Rattle.base.specs.Numbers.{all_zero}
use Rattle.base.specs.Pools.{members, leader_of, last_height}
use Rattle.base.specs.Statements.{statement_bytes}
use Rattle.base.specs.declared.pools.Pool.{Pool}
use Rattle.base.specs.declared.refusals.Refusal.{Refusal}
use Rattle.base.specs.declared.refusals.Refusal.TheVariants.{BadSeal}
use Rattle.base.specs.declared.slips.Mark.{Mark}
use Rattle.base.specs.declared.slips.Slip.{Slip}
use Rattle.base.specs.declared.stages.Stage.{Stage}
use Rattle.base.specs.declared.statements.Statement.{Statement}
use Rattle.base.specs.declared.statements.Word.{Word}
use Rattle.base.specs.declared.statements.Word.TheVariants.{Rchg, Cand, Cmit, Lock, Slct, Dcid, Rlse}
use Rattle.message.specs.Contents.{Signed, Cert, Locked, Content, change, lock, select, commit, decide, release, Sent}
use Rattle.message.specs.declared.shapes.Head.{Head}
use Rattle.protocol.specs.Rounds.{says, is_locking, is_releasing, has_place, locks_of}
use Rattle.protocol.specs.State.{Latest, View, same_page}
use Rattle.agree.specs.Pool.{Lock as KeptLock}
use Rattle.std.specs.Str.{bytes_eq}

abbrev pub height_in : Head → ℕ
height_in h = h.height.0

abbrev pub round_in : Head → ℕ
round_in h = h.round.0

abbrev pub sender_in : Head → ℕ
sender_in h = h.sender.0

-- who speaks ------------------------------------------------------------------------------------------------------

-- the members in whose names the quorum's seals stand are the pool's
abbrev pub all_members : Pool → List (Signed (List ℕ)) → Bool
all_members pool [] = true
all_members pool (v ∷ vs) = nat_lt v.signer (members pool) && all_members pool vs

-- it comes from the leader of its height and round
abbrev pub from_leader : Pool → Head → Bool
from_leader pool h = sender_in h == leader_of pool h.height h.round

-- a lock, select or decide comes from its leader, over members of the pool
abbrev pub cert_familiar : Pool → Head → Cert (List ℕ) → Bool
cert_familiar pool h c = all_members pool c.votes && from_leader pool h

abbrev pub familiar_in : Pool → Head → Content (List ℕ) → Bool
familiar_in pool h (change page a b) = true
familiar_in pool h (lock c) = cert_familiar pool h c
familiar_in pool h (select c) = cert_familiar pool h c
familiar_in pool h (commit s a) = true
familiar_in pool h (decide c) = cert_familiar pool h c
familiar_in pool h (release l inner b) = cert_familiar pool inner.head inner.cert

-- neither the sender nor a sealing member is a stranger
abbrev pub familiar : Pool → Sent (List ℕ) → Bool
familiar pool s = nat_lt (sender_in s.head) (members pool) && familiar_in pool s.head s.content

-- under which seals -----------------------------------------------------------------------------------------------

-- a seal that is looked at: its place in the table of contents, whether in the lock inside, in whose name, on what
pub record Check : Type 0 where
  pub place : ℕ
  pub inside : Bool
  pub signer : ℕ
  pub statement : Statement
  pub seal : List ℕ

-- the quorum's seals, one place after the other
abbrev pub vote_checks : ℕ → Bool → Statement → List (Signed (List ℕ)) → List Check
vote_checks place inside statement [] = []
vote_checks place inside statement (v ∷ vs) =
    record { place = place; inside = inside; signer = v.signer; statement = statement; seal = v.seal } ∷ vote_checks (place + 1) inside statement vs

-- the sender's own seal at place 1, then the quorum's
abbrev pub cert_checks : Bool → Word → Word → Option Slip → Head → Cert (List ℕ) → List Check
cert_checks inside own others page h c =
    record { place = 1; inside = inside; signer = sender_in h; statement = says own (height_in h) (round_in h) (Some c.slip); seal = c.own }
    ∷ vote_checks 2 inside (says others (height_in h) (round_in h) page) c.votes

abbrev pub lock_checks : Bool → Head → Cert (List ℕ) → List Check
lock_checks inside h c = cert_checks inside Lock Cand (Some c.slip) h c

-- where the seals of a change stand: behind its slip, if it has one
abbrev pub after_slip : Option Slip → ℕ
after_slip None = 0
after_slip (Some s) = 1

-- all seals of a message, in the order of its bodies
abbrev pub checks_of : Head → Content (List ℕ) → List Check
checks_of h (change page a b) =
    record { place = after_slip page; inside = false; signer = sender_in h; statement = says Rchg (height_in h) (round_in h) None; seal = a }
    ∷ (record { place = after_slip page + 1; inside = false; signer = sender_in h; statement = says Cand (height_in h) (round_in h) page; seal = b } ∷ [])
checks_of h (lock c) = lock_checks false h c
checks_of h (select c) = cert_checks false Slct Rchg None h c
checks_of h (commit s a) = record { place = 1; inside = false; signer = sender_in h; statement = says Cmit (height_in h) (round_in h) (Some s); seal = a } ∷ []
checks_of h (decide c) = cert_checks false Dcid Cmit (Some c.slip) h c
checks_of h (release l inner b) =
    lock_checks true inner.head inner.cert
    ++ record { place = 1; inside = false; signer = sender_in h; statement = says Rlse (height_in h) (round_in h) (Some inner.cert.slip); seal = b } ∷ []

abbrev pub recognised : (ℕ → List ℕ → List ℕ → Bool) → Check → Bool
recognised knows k = knows k.signer (statement_bytes k.statement) k.seal

-- the first seal that is not recognised
abbrev pub bad_seal : (ℕ → List ℕ → List ℕ → Bool) → List Check → Option Refusal
bad_seal knows [] = None
bad_seal knows (k ∷ ks) = cond (recognised knows k) (bad_seal knows ks) (Some (BadSeal k.place k.inside))

-- for which round, in which stage ---------------------------------------------------------------------------------

-- the round of a member's latest statement is not above
abbrev pub not_before : ℕ → Option Latest → Bool
not_before r None = true
not_before r (Some l) = nat_le l.round r

abbrev pub latest_of : View → ℕ → Option Latest
latest_of v i = slice_index_or v.latest i None

abbrev pub round_taken : View → Head → Content (List ℕ) → Bool
round_taken v h (change page a b) = nat_le v.round (round_in h) && not_before (round_in h) (latest_of v (sender_in h))
round_taken v h (lock c) = nat_le v.round (round_in h)
round_taken v h (select c) = nat_le v.round (round_in h)
round_taken v h (commit s a) = true
round_taken v h (decide c) = true
round_taken v h (release l inner b) = v.round == round_in h

-- the stage table: a lock or select of the replica's own round is taken in locking only, of a higher round in every stage
abbrev pub takes_own_round : Stage → Bool
takes_own_round stage = is_locking stage

abbrev pub led_now : View → Head → Bool
led_now v h = nat_lt v.round (round_in h) || takes_own_round v.stage

abbrev pub stage_takes : View → Head → Content (List ℕ) → Bool
stage_takes v h (change page a b) = true
stage_takes v h (lock c) = led_now v h
stage_takes v h (select c) = led_now v h
stage_takes v h (commit s a) = false
stage_takes v h (decide c) = true
stage_takes v h (release l inner b) = is_releasing v.stage

-- about which slip ------------------------------------------------------------------------------------------------

abbrev pub slip_in : Content (List ℕ) → Option Slip
slip_in (change page a b) = page
slip_in (lock c) = Some c.slip
slip_in (select c) = Some c.slip
slip_in (commit s a) = Some s
slip_in (decide c) = Some c.slip
slip_in (release l inner b) = Some inner.cert.slip

-- a slip is on the chain: it stands on the last page and its own mark is not all zeros
abbrev pub on_chain : Mark → Slip → Bool
on_chain last s = bytes_eq s.parent.0 last.0 && not (all_zero s.own.0)

-- a test of the slip that comes in, if any
abbrev pub of_slip : (Slip → Bool) → Option Slip → Bool
of_slip test None = true
of_slip test (Some s) = test s

-- a repeat: the same member, round and page, whatever the seals
abbrev pub repeats : ℕ → Option Slip → Option Latest → Bool
repeats r page None = false
repeats r page (Some l) = l.round == r && same_page l.page page

-- another page for the same round
abbrev pub other_page : ℕ → Option Slip → Option Latest → Bool
other_page r page None = false
other_page r page (Some l) = l.round == r && not (same_page l.page page)

-- a contradiction: another page for the same round, or a change in the replica's own name that is no repeat
abbrev pub contradicts : ℕ → View → Head → Content (List ℕ) → Bool
contradicts own v h (change page a b) =
    other_page (round_in h) page (latest_of v (sender_in h))
    || (sender_in h == own && not (repeats (round_in h) page (latest_of v (sender_in h))))
contradicts own v h (lock c) = false
contradicts own v h (select c) = false
contradicts own v h (commit s a) = false
contradicts own v h (decide c) = false
contradicts own v h (release l inner b) = false

-- a lock's round is above that of every lock held
abbrev pub above_all : ℕ → List (KeptLock Slip) → Bool
above_all r [] = true
above_all r (l ∷ ls) = nat_lt l.round r && above_all r ls

-- whether a release has an effect
abbrev pub outranks : View → Locked (List ℕ) → Bool
outranks v inner = above_all (round_in inner.head) (locks_of v.candidates)

-- there is a place for the slip where one is needed
abbrev pub placed : View → Head → Content (List ℕ) → Bool
placed v h (change page a b) = repeats (round_in h) page (latest_of v (sender_in h)) || of_slip (λ s. has_place s v.candidates) page
placed v h (lock c) = has_place c.slip v.candidates
placed v h (select c) = has_place c.slip v.candidates
placed v h (commit s a) = true
placed v h (decide c) = true
placed v h (release l inner b) = not (outranks v inner) || has_place inner.cert.slip v.candidates

-- the book goes on: a decide at the last height does not
abbrev pub goes_on : View → Content (List ℕ) → Bool
goes_on v (change page a b) = true
goes_on v (lock c) = true
goes_on v (select c) = true
goes_on v (commit s a) = true
goes_on v (decide c) = nat_lt v.height last_height
goes_on v (release l inner b) = true
