-- Taking a decide, and every message.
use Rattle.std.proofs.Common.{◌≡◌, ℕ, zero, suc, ◌+◌, ◌≤◌, true, false, ltb, List, [], ◌∷◌, get_or, replicate, Some, None, Option, sym, refl, ap, ◌∙◌, subst, add-one, arith}
use Rattle.std.specs.List.{AllByRecursion as All}
use Rattle.std.proofs.lemmas.List.{length-replicate}
use Rattle.std.proofs.lemmas.Bool.{and_parts, ltb-true}
use Rattle.agree.specs.Pool.{Event.entered, Replica, Decided}
use Rattle.agree.specs.Moves.{Move.enters}
use Rattle.base.specs.Numbers.{Bytes}
use Rattle.base.specs.Pools.{members, last_height}
use Rattle.base.specs.declared.pools.Pool.{Pool}
use Rattle.base.specs.declared.slips.Mark.{Mark}
use Rattle.base.specs.declared.slips.Slip.{Slip}
use Rattle.message.specs.Contents.{Cert, Content, change, lock, select, commit, decide, release, Sent}
use Rattle.message.specs.Encoding.{LawfulHead, LawfulCert, Lawful}
use Rattle.message.specs.RoundTrip.{fields}
use Rattle.message.specs.declared.shapes.Head.{Head}
use Rattle.message.proofs.Trips.{round_trip}
use Rattle.protocol.specs.Judging.{Check, recognised, round_in, sender_in, all_members, checks_of}
use Rattle.protocol.specs.Messages.{taken, on_decide, plan_of, judged_fields, judge_message}
use Rattle.protocol.specs.Plans.{quiet}
use Rattle.protocol.specs.Runs.{Assembly, World, SealedBefore, Vouched, as_pool, box_of, deeds_by, deeds_of}
use Rattle.protocol.specs.State.{Latest, View, fresh}
use Rattle.protocol.proofs.Certificates.{decided}
use Rattle.protocol.proofs.Changing.{change_lands}
use Rattle.protocol.proofs.Judged.{Passed, judged}
use Rattle.protocol.proofs.Keeping.{said, seen, look_at, LatestFits, Fair}
use Rattle.protocol.proofs.Settling.{Passing, refuses, passing, Here, pool_is, fair_is, moves, Lands, plain_lands}
use Rattle.protocol.proofs.Slips.{chain_parent}
use Rattle.protocol.proofs.Taking.{cert_members, lock_lands, select_lands, release_lands}

all_meet : {X : Type 0} (P Q : X → Type 0) (xs : List X) → All P xs → All (λ x. P x → Q x) xs → All Q xs
all_meet P Q [] ps fs = tt
all_meet P Q (x ∷ xs) ps fs = (fs.0 ps.0, all_meet P Q xs ps.1 fs.1)

-- a fresh view has no statement
blank : (n i : ℕ) → get_or {A = Option Latest} (replicate n None) i None ≡ None
blank zero i = refl
blank (suc n) zero = refl
blank (suc n) (suc i) = blank n i

blank_fits : (n : ℕ) → All LatestFits (replicate n None)
blank_fits zero = tt
blank_fits (suc n) = (tt, blank_fits n)

pub fair_fresh : (own pool : Pool) (h : ℕ) (mark : Mark) → own ≡ pool → h ≤ last_height → Fair (members pool) (fresh own h mark)
fair_fresh own pool h mark is le =
    record { long = length-replicate (members own) None ∙ ap members is; slips = tt; statements = blank_fits (members own); rest = λ e. refl; high = le; late = omega arith }

pub look_fresh : (i : ℕ) (pool : Pool) (h : ℕ) (mark : Mark) → look_at i (fresh pool h mark) ≡ seen h 0 true None [] mark
look_fresh i pool h mark = λ t. seen h 0 true (said (blank (members pool) i t)) [] mark

module _ (a : Assembly) (start : ℕ → Replica Slip Mark) (w : World) (i : ℕ) (here : Here a start w i) (seals : List (List ℕ)) where
  decide_lands : (h : Head) (c : Cert (List ℕ)) → Passed (box_of a i (w.stations i)) (record { head = h; content = decide c }) → LawfulHead h → LawfulCert a.pool (a.long i) c
      → Lands a start w i here (All (SealedBefore a w.sealed) (checks_of h (decide c))) (entered i (w.stations i).view.height c.slip ∷ []) seals (on_decide (box_of a i (w.stations i)) c)
  decide_lands h c passed range lawful =
      let v : View = (w.stations i).view in
      let known : all_members a.pool c.votes ≡ true = cert_members a.pool _ h c (pool_is a start w i here) (and_parts (ltb (sender_in h) _) _ passed.known).1 in (
        tt,
        λ vouched.
            let cert : Decided (as_pool a) w.events v.height (round_in h) c.slip =
            subst (λ x. Decided (as_pool a) w.events x (round_in h) c.slip) passed.height_is (decided a w here.good.told (a.long i) h c range lawful known 2 false vouched.1) in
            moves a start w i here (quiet (box_of a i (w.stations i)) (on_decide (box_of a i (w.stations i)) c)) (entered i v.height c.slip ∷ [])
            (enters (round_in h) c.slip) (look_at i v) refl
            (refl, cert, chain_parent v.last c.slip passed.chained)
            (look_fresh i (w.stations i).settings.pool (v.height + 1) c.slip.own ∙ (λ t. seen (add-one v.height t) 0 true None [] c.slip.own))
            (fair_fresh (w.stations i).settings.pool a.pool (v.height + 1) c.slip.own (pool_is a start w i here) (omega (arith, ltb-true v.height last_height passed.book_on)))
            tt refl,
      )

  -- each kind
  content_lands : (m : List ℕ) (h : Head) (c : Content (List ℕ)) → Passed (box_of a i (w.stations i)) (record { head = h; content = c }) → Lawful a.pool (a.long i) (record { head = h; content = c })
      → Lands a start w i here (All (SealedBefore a w.sealed) (checks_of h c)) (deeds_by i (w.stations i).view (record { head = h; content = c }) c) seals (plan_of (box_of a i (w.stations i)) m h c)
  content_lands m h (change page x y) passed f = change_lands a start w i here _ seals h page x y passed f.head_lawful f.content_lawful.0
  content_lands m h (lock c) passed f = lock_lands a start w i here seals m h c passed f.head_lawful f.content_lawful
  content_lands m h (select c) passed f = select_lands a start w i here seals _ h c passed f.head_lawful f.content_lawful
  content_lands m h (commit s x) passed f = plain_lands a start w i here _ seals taken (w.stations i).view refl (fair_is a start w i here)
  content_lands m h (decide c) passed f = decide_lands h c passed f.head_lawful f.content_lawful
  content_lands m h (release l inner x) passed f =
      release_lands a start w i here seals h l inner x passed f.content_lawful.1.0 f.content_lawful.1.1.0 f.content_lawful.1.1.1.0

  -- every message
  pub message_lands : (m : List ℕ) → Bytes m → Passing (Lands a start w i here (Vouched a i w.sealed (fields a.pool (a.long i) m)) (deeds_of i (w.stations i).view (fields (w.stations i).settings.pool (a.long i) m)) seals) (judge_message (box_of a i (w.stations i)) m)
  message_lands m bytes =
      passing _ (ltb i (members (w.stations i).settings.pool)) _ _ (λ member.
      subst (λ p. Passing (Lands a start w i here (Vouched a i w.sealed (fields a.pool (a.long i) m)) (deeds_of i (w.stations i).view (fields p (a.long i) m)) seals) (judged_fields (box_of a i (w.stations i)) m (fields p (a.long i) m)))
      (sym (pool_is a start w i here)) (by (fields a.pool (a.long i) m) refl))
    where
      by : (o : Option (Sent (List ℕ))) → fields a.pool (a.long i) m ≡ o → Passing (Lands a start w i here (Vouched a i w.sealed o) (deeds_of i (w.stations i).view o) seals) (judged_fields (box_of a i (w.stations i)) m o)
      by None is = refuses
      by (Some s) is =
          judged (box_of a i (w.stations i)) m s (Lands a start w i here (Vouched a i w.sealed (Some s)) (deeds_of i (w.stations i).view (Some s)) seals)
          (λ passed.
          let lands = content_lands m s.head s.content passed (round_trip.reads_lawful a.pool (a.long i) m s bytes is) in
          (lands.0, λ vouched. lands.1 (all_meet (λ (k : Check). recognised (a.knows i) k ≡ true) (SealedBefore a w.sealed) (checks_of s.head s.content) passed.sealed_well vouched)))
