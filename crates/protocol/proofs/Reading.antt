-- What a call writes reads back: what is kept along a run for it, what each plan keeps and says, and every call.
use Rattle.protocol.specs.Witness.{written_by}
use Rattle.std.proofs.Common.{◌≡◌, ℕ, zero, suc, ◌+◌, ◌<◌, ◌≤◌, true, cond, eqb, leb, List, [], ◌∷◌, length, take, replicate, Some, None, Ok, Err, Option, Result, sym, refl, ap, ◌∙◌, subst, arith}
use Rattle.agree.proofs.Log.{none_some, some_same}
use Rattle.base.specs.Numbers.{Bytes}
use Rattle.base.specs.Pools.{members, quorum, height_in_range, round_in_range, last_height, last_round}
use Rattle.base.specs.Statements.{PageFits}
use Rattle.base.specs.declared.pools.Pool.{Pool}
use Rattle.base.specs.declared.refusals.Refusal.{Refusal}
use Rattle.base.specs.declared.refusals.Refusal.TheVariants.{OutboxShort}
use Rattle.base.specs.declared.slips.Slip.{Slip}
use Rattle.base.specs.declared.stages.Stage.TheVariants.{Changing, Locking}
use Rattle.message.proofs.Trips.{round_trip}
use Rattle.message.specs.Contents.{Signed, Cert, Locked, Content, change, lock, select, commit, decide, release, Sent}
use Rattle.message.specs.Encoding.{Rising, LawfulHead, LawfulCert, Lawful, encoded, encoded_lock}
use Rattle.message.specs.RoundTrip.{fields}
use Rattle.message.specs.declared.shapes.Head.{Head}
use Rattle.protocol.specs.Calls.{judge_offer, judge_begin, judge_tick, again, resending}
use Rattle.protocol.specs.Judging.{height_in, round_in, sender_in, latest_of, repeats, above_all, outranks}
use Rattle.protocol.specs.Messages.{Answer, taken, shelved_page, in_round_of, on_change, on_lock, on_select, on_release, plan_of, judge_message}
use Rattle.protocol.specs.Plans.{Draft, Plan, Done, draft_bytes, draft_size, refusing, goes, wears, carried, settled}
use Rattle.protocol.specs.Rounds.{is_changing, shelved, unlocked, locks_of, top_of, candidate_of, of_round, called_for, highest_round, quorate, head_for, seal_at, change_draft, moved, with_candidates, onward, stating, recorded_by, plainly, release_of, releasing, locked_at, with_held}
use Rattle.protocol.specs.Runs.{Assembly, Call, opens, offers, begins, ticks, takes, turns, forwards, counts, closes, Act, Station, World, box_of, step_by, station_after, Fitting, played, LawfulRun, settings_by}
use Rattle.protocol.specs.State.{Settings, Latest, Held, View, Box, settings_lawful, tally}
use Rattle.protocol.specs.Laws.{from, Reads, noticed, HeldSays, Says, states_first, states_again, states_next, releases, states_called, commits, releases_selected, locks, selects, decides, WellSealed, RecordFits, TurnFits, WritesReadBack}
use Rattle.protocol.specs.Turns.{Gathering, Counting, Committed, Records, Forwarded, names_in, commits_to, lowest, cand_of, rchg_of, commit_of, agreed_of, select_due, forward_lock, forward_select, decide_draft, judge_opening, judge_forward, judge_commit, judge_closing}
use Rattle.protocol.proofs.Certificates.{head_ranges}
use Rattle.protocol.proofs.Changing.{highest_late, fit_page}
use Rattle.protocol.proofs.Judged.{Passed}
use Rattle.protocol.proofs.Keeping.{LatestFits, Fair}
use Rattle.protocol.proofs.Settling.{Passing, passes, refuses}
use Rattle.protocol.proofs.Shelf.{top_fits, candidate_fits}
use Rattle.protocol.proofs.Stating.{fair_candidates, fair_latest}
use Rattle.protocol.proofs.Votes.{members_few, lowest_many, lowest_rise, agreed}
use Rattle.protocol.proofs.Walking.{Timed, offer_walk, begin_walk, tick_walk, message_walk, opening_walk, forward_walk, commit_walk, closing_walk}
use Rattle.protocol.proofs.Whole.{good_run}
use Rattle.std.proofs.ByRecursion.{All-get_or, All-set, All-take, All-weaker}
use Rattle.std.proofs.lemmas.List.{length-take}
use Rattle.std.proofs.lemmas.Bool.{and_parts, and_from, both_ways, cond_both, eqb-true, le-leb, leb-true, false≢true}
use Rattle.std.specs.List.{AllByRecursion as All}

-- what is kept -------------------------------------------------------------------------------------------------------

-- a recorded statement has seals of the length
abbrev SealsFit : ℕ → Option Latest → Type 0
SealsFit n None = Unit {0}
SealsFit n (Some l) = (length l.rchg ≡ n) × (length l.cand ≡ n)

-- the held bytes are those of a lawful lock message of the height, on the held slip in the held round
record LockOf (pool : Pool) (n height : ℕ) (h : Held) (l : Locked (List ℕ)) : Type 0 where
  bytes_are : h.bytes ≡ encoded_lock l
  head_fits : LawfulHead l.head
  cert_fits : LawfulCert pool n l.cert
  height_is : height_in l.head ≡ height
  slip_is : l.cert.slip ≡ h.slip
  round_is : round_in l.head ≡ h.round

abbrev HeldFits : Pool → ℕ → ℕ → Option Held → Type 0
HeldFits pool n height None = Unit {0}
HeldFits pool n height (Some h) = (l : Locked (List ℕ)) × LockOf pool n height h l

record CleanOf (pool : Pool) (n height : ℕ) (latest : List (Option Latest)) (held : Option Held) : Type 0 where
  begun : 1 ≤ height
  sealed : All (SealsFit n) latest
  holds : HeldFits pool n height held

abbrev Clean : Pool → ℕ → View → Type 0
Clean pool n v = CleanOf pool n v.height v.latest v.held

blank_seals : (n k : ℕ) → All (SealsFit n) (replicate k None)
blank_seals n zero = tt
blank_seals n (suc k) = (tt, blank_seals n k)

-- a head of the program
head_lawful : (own height round : ℕ) → own < 256 → 1 ≤ height → height ≤ last_height → round ≤ last_round → LawfulHead (head_for own height round)
head_lawful own height round small begun high late =
    record {
      sender_fits = small;
      ranges_hold = and_from (height_in_range (record { 0 = height })) (round_in_range (record { 0 = round }))
          (and_from (leb 1 height) (leb height last_height) (le-leb 1 height begun) (le-leb height last_height high)) (le-leb round last_round late);
    }

-- a test that passes tells that there is a seal
cand_long : (n r : ℕ) (s : Slip) (o : Option Latest) → SealsFit n o → names_in r s o ≡ true → length (cand_of o) ≡ n
cand_long n r s None f e = absurd (false≢true e)
cand_long n r s (Some l) f e = f.1

rchg_long : (n r : ℕ) (o : Option Latest) → SealsFit n o → of_round r o ≡ true → length (rchg_of o) ≡ n
rchg_long n r None f e = absurd (false≢true e)
rchg_long n r (Some l) f e = f.0

commit_long : (n : ℕ) (s : Slip) (o : Option Committed) → RecordFits n o → commits_to s o ≡ true → length (commit_of o) ≡ n
commit_long n s None f e = absurd (false≢true e)
commit_long n s (Some c) f e = f

-- what each plan keeps and says --------------------------------------------------------------------------------------

module _ (b : Box) (call : Call) (seals : List (List ℕ)) where
  abbrev n : ℕ
  n = b.sealer.long

  abbrev pool : Pool
  pool = b.settings.pool

  -- a seal of the length for each statement
  abbrev Enough : ℕ → Type 0
  Enough k = All (λ (s : List ℕ). length s ≡ n) seals × (k ≤ length seals)

  said : {s : Sent (List ℕ)} (c : Call) → call ≡ c → Says b seals c s → Says b seals call s
  said {s} c is w = subst (λ x. Says b seals x s) (sym is) w

  abbrev Speaks : List ℕ → Type 0
  Speaks m = (s : Sent (List ℕ)) × Says b seals call s × (m ≡ encoded s) × Lawful pool n s

  abbrev WellBy : {X : Type 0} → Plan X → Option Draft → Type 0
  WellBy p None = Clean pool n (p.next [])
  WellBy p (Some d) = Enough (length d.wants) → Clean pool n (p.next seals) × (TurnFits n call → Speaks (draft_bytes d seals))

  abbrev Well : (X : Type 0) → Plan X → Type 0
  Well X p = WellBy p p.draft

  one_long : Enough 1 → length (seal_at seals 0) ≡ n
  one_long e = All-get_or (λ (s : List ℕ). length s ≡ n) seals 0 [] (omega (arith, e.1)) e.0

  two_long : Enough 2 → (length (seal_at seals 0) ≡ n) × (length (seal_at seals 1) ≡ n)
  two_long e = (All-get_or (λ (s : List ℕ). length s ≡ n) seals 0 [] (omega (arith, e.1)) e.0, All-get_or (λ (s : List ℕ). length s ≡ n) seals 1 [] (omega (arith, e.1)) e.0)

  module _ (low : b.sealer.number < members pool) (fair : Fair (members pool) b.view) (clean : Clean pool n b.view) where
    own_small : b.sealer.number < 256
    own_small = omega (arith, members_few pool)

    -- a head in the replica's name
    head_is : (r : ℕ) → r ≤ last_round → LawfulHead (head_for b.sealer.number b.view.height r)
    head_is r late = head_lawful b.sealer.number b.view.height r own_small clean.begun fair.high late

    -- a change
    changes : (r : ℕ) (page : Option Slip) → r ≤ last_round → PageFits page → Says b seals call (from b r (change page (seal_at seals 0) (seal_at seals 1))) → Enough 2
        → Speaks (draft_bytes (change_draft b.sealer.number b.view.height r page) seals)
    changes r page late fits says e = (
      from b r (change page (seal_at seals 0) (seal_at seals 1)),
      says,
      refl,
      record {
        head_lawful = head_is r late;
        content_lawful = (fits, two_long e);
      },
    )

    onward_clean : (u : View) → Clean pool n u → Clean pool n (onward b.settings u)
    onward_clean u f = cond_both (quorate b.settings u.round u) (moved u u.round Locking) u (Clean pool n) (λ q. f) (λ q. f)

    -- stating a round from a view of the same height
    states : {X : Type 0} (x : X) (u : View) (r : ℕ) → u.height ≡ b.view.height → Fair (members pool) u → Clean pool n u → r ≤ last_round
        → Says b seals call (from b r (change (candidate_of b.rules u.candidates) (seal_at seals 0) (seal_at seals 1))) → Well X (stating b x u r)
    states x u r same f c late says e = (
      onward_clean _
          (record {
            begun = c.begun;
            sealed = All-set (SealsFit n) u.latest b.sealer.number _ (two_long e) c.sealed;
            holds = c.holds;
          }),
      λ t. subst (λ k. Speaks (draft_bytes (change_draft b.sealer.number k r (candidate_of b.rules u.candidates)) seals)) (sym same)
          (changes r (candidate_of b.rules u.candidates) late (candidate_fits b.rules u.candidates f.slips) says e),
    )

    -- entering releasing in a round, with the lock message that the replica holds
    lets_go : {X : Type 0} (x : X) (u : View) → u.height ≡ b.view.height → u.held ≡ b.view.held → u.round ≤ last_round → Clean pool n u
        → ((h : Held) (inner : Locked (List ℕ)) → HeldSays b h inner → Says b seals call (from b u.round (release h.bytes inner (seal_at seals 0))))
        → Well X (releasing b x u)
    lets_go {X} x u same held late c says = by u.held refl
      where
        by : (o : Option Held) → u.held ≡ o → WellBy (releasing b x u) (release_of b.sealer.number u o)
        by None is = c
        by (Some h) is = λ e. (
          c,
          λ t.
              let fits : HeldFits pool n u.height (Some h) = subst (HeldFits pool n u.height) is c.holds in
              let inner : Locked (List ℕ) = fits.0 in
              let of : LockOf pool n u.height h inner = fits.1 in (
                from b u.round (release h.bytes inner (seal_at seals 0)),
                says h inner (record { is_held = sym held ∙ is; of_slip = of.slip_is; of_round = of.round_is; of_height = of.height_is ∙ same }),
                ap (λ k. encoded (record { head = head_for b.sealer.number k u.round; content = release h.bytes inner (seal_at seals 0) })) same,
                record {
                  head_lawful = head_is u.round late;
                  content_lawful = (of.bytes_are, (of.head_fits, (of.cert_fits, (of.height_is ∙ same, one_long e))));
                },
              ),
        )

    -- a leader's message
    cert_lawful : (s : Slip) (votes : List (Signed (List ℕ))) → PageFits (Some s) → length votes ≡ quorum pool → Rising n 0 votes → length (seal_at seals 0) ≡ n → LawfulCert pool n (record { slip = s; own = seal_at seals 0; votes = votes })
    cert_lawful s votes fits many rise long = record { slip_fits = fits; own_fits = long; quorate = many; votes_rise = rise }

    few : length b.view.latest ≤ 10
    few = omega (arith, fair.long, members_few pool)

    locks_well : (t : Gathering) (rs : Records) (s : Slip) → call ≡ forwards t rs → agreed_of (quorum pool) b.view.round b.view.latest b.view.latest ≡ Some s → Well Forwarded (forward_lock b rs s)
    locks_well t rs s is chosen e = (
      clean,
      λ f.
          let a = agreed (quorum pool) b.view.round b.view.latest s b.view.latest fair.statements chosen in
          let votes : List (Signed (List ℕ)) = lowest b (names_in b.view.round s) cand_of b.view.latest in (
            from b b.view.round (lock (record { slip = s; own = seal_at seals 0; votes = votes })),
            said (forwards t rs) is (locks s chosen),
            refl,
            record {
              head_lawful = head_is b.view.round fair.late;
              content_lawful = cert_lawful s votes a.0 (lowest_many b (names_in b.view.round s) cand_of b.view.latest a.1)
                  (lowest_rise b (names_in b.view.round s) cand_of b.view.latest n few
                  (All-weaker (SealsFit n) (λ o. names_in b.view.round s o ≡ true → length (cand_of o) ≡ n) (λ o g. cand_long n b.view.round s o g) b.view.latest clean.sealed))
                  (one_long e);
            },
          ),
    )

    selects_well : (t : Gathering) (rs : Records) (s : Slip) → call ≡ forwards t rs → top_of b.rules.above b.view.candidates ≡ Some s → select_due b ≡ true → Well Forwarded (forward_select b rs s)
    selects_well t rs s is chosen due e = (
      clean,
      λ f.
          let votes : List (Signed (List ℕ)) = lowest b (of_round b.view.round) rchg_of b.view.latest in (
            from b b.view.round (select (record { slip = s; own = seal_at seals 0; votes = votes })),
            said (forwards t rs) is (selects s chosen),
            refl,
            record {
              head_lawful = head_is b.view.round fair.late;
              content_lawful = cert_lawful s votes (subst PageFits chosen (top_fits b.rules.above b.view.candidates fair.slips))
                  (lowest_many b (of_round b.view.round) rchg_of b.view.latest (and_parts (quorate b.settings b.view.round b.view) _ due).0)
                  (lowest_rise b (of_round b.view.round) rchg_of b.view.latest n few
                  (All-weaker (SealsFit n) (λ o. of_round b.view.round o ≡ true → length (rchg_of o) ≡ n) (λ o g. rchg_long n b.view.round o g) b.view.latest clean.sealed))
                  (one_long e);
            },
          ),
    )

    decides_well : (t : Counting) (rs : Records) → call ≡ closes t rs → leb (quorum pool) (tally (commits_to t.page) (take (members pool) rs)) ≡ true → Well Answer (record { answer = taken; next = λ ss. b.view; draft = Some (decide_draft b t rs) })
    decides_well t rs is many e = (
      clean,
      λ f.
          let first : Records = take (members pool) rs in
          let votes : List (Signed (List ℕ)) = lowest b (commits_to t.page) commit_of first in (
            from b b.view.round (decide (record { slip = t.page; own = seal_at seals 0; votes = votes })),
            said (closes t rs) is decides,
            refl,
            record {
              head_lawful = head_is b.view.round fair.late;
              content_lawful = cert_lawful t.page votes (f t rs is).0 (lowest_many b (commits_to t.page) commit_of first many)
                  (lowest_rise b (commits_to t.page) commit_of first n (omega (arith, length-take (members pool) rs, members_few pool))
                  (All-weaker (RecordFits n) (λ o. commits_to t.page o ≡ true → length (commit_of o) ≡ n) (λ o g. commit_long n t.page o g) first (All-take (RecordFits n) (members pool) rs (f t rs is).1)))
                  (one_long e);
            },
          ),
    )

    -- a tick
    resends : (k : ℕ) → call ≡ ticks k → b.view.stage ≡ Changing → (o : Option Latest) → latest_of b.view b.sealer.number ≡ o → WellBy (resending b) (again b o)
    resends k is stage None latest = clean
    resends k is stage (Some l) latest = λ e.
        let fits : LatestFits (Some l) = subst LatestFits latest (All-get_or LatestFits b.view.latest b.sealer.number None (omega (arith, fair.long, low)) fair.statements) in
        (clean, λ t. changes l.round l.page fits.0 fits.1 (said (ticks k) is (states_again l stage latest)) e)

    timed_well : (k : ℕ) → call ≡ ticks k → Timed b Well
    timed_well k is =
        record {
          resting = clean;
          changing = λ stage. resends k is stage (latest_of b.view b.sealer.number) refl;
          locking = clean;
          committing = λ stage. lets_go taken b.view refl refl fair.late clean (λ h inner of. said (ticks k) is (releases h inner stage of));
          releases = λ stage more. states taken b.view (b.view.round + 1) refl fair clean (omega (arith, more)) (said (ticks k) is (states_next stage));
          counted = λ j. clean;
        }

    -- a message
    module _ (m : List ℕ) (bytes : Bytes m) (is : call ≡ takes m) (h : Head) where
      lawful_is : (c : Content (List ℕ)) → Reads b m h c → Lawful pool n (record { head = h; content = c })
      lawful_is c reads = round_trip.reads_lawful pool n m (record { head = h; content = c }) bytes reads

      change_well : (page : Option Slip) (x y : List ℕ) → Reads b m h (change page x y) → Well Answer (on_change b h page x y)
      change_well page x y reads =
          let v : View = b.view in
          let u : View = noticed v h page x y in
          let f = lawful_is (change page x y) reads in
          let late : round_in h ≤ last_round = (head_ranges h f.head_lawful).1 in
          let fair' : Fair (members pool) u = fair_latest _ (with_candidates v (shelved_page page v.candidates)) (sender_in h) _ late f.content_lawful.0 (fair_candidates _ v _ (fit_page page v.candidates f.content_lawful.0 fair.slips) fair) in
          let clean' : Clean pool n u = record { begun = clean.begun; sealed = All-set (SealsFit n) v.latest (sender_in h) _ f.content_lawful.1 clean.sealed; holds = clean.holds } in
          cond_both (repeats (round_in h) page (latest_of v (sender_in h))) (plainly taken v) (recorded_by b taken u (highest_round (called_for b.settings u) u.latest)) (Well Answer)
          (λ old. clean)
          (λ new. by u refl fair' clean' (λ r chosen. said (takes m) is (states_called h page x y r reads chosen)) (highest_round (called_for b.settings u) u.latest) refl)
        where
          by : (u : View) → u.height ≡ b.view.height → Fair (members pool) u → Clean pool n u
              → ((r : ℕ) → highest_round (called_for b.settings u) u.latest ≡ Some r → Says b seals call (from b r (change (candidate_of b.rules u.candidates) (seal_at seals 0) (seal_at seals 1))))
              → (o : Option ℕ) → highest_round (called_for b.settings u) u.latest ≡ o → Well Answer (recorded_by b taken u o)
          by u same f c says (Some r) chosen = states taken u r same f c (highest_late (called_for b.settings u) u.latest r f.statements chosen) (says r chosen)
          by u same f c says None chosen = cond_both (is_changing u.stage) (onward b.settings u) u (Clean pool n) (λ e. onward_clean u c) (λ e. c)

      lock_well : (c : Cert (List ℕ)) → Reads b m h (lock c) → height_in h ≡ b.view.height → Well Answer (on_lock b m h c)
      lock_well c reads same e =
          let f = lawful_is (lock c) reads in
          let late : round_in h ≤ last_round = (head_ranges h f.head_lawful).1 in (
            record {
              begun = clean.begun;
              sealed = clean.sealed;
              holds = cond_both (above_all (round_in h) (locks_of b.view.candidates)) (Some (record { slip = c.slip; round = round_in h; bytes = m })) b.view.held (HeldFits pool n b.view.height)
                  (λ top. (
                    record { head = h; cert = c },
                    record {
                      bytes_are = round_trip.reads_only pool n m (record { head = h; content = lock c }) bytes reads;
                      head_fits = f.head_lawful;
                      cert_fits = f.content_lawful;
                      height_is = same;
                      slip_is = refl;
                      round_is = refl;
                    },
                  ))
                  (λ low. clean.holds);
            },
            λ t. (
              from b (round_in h) (commit c.slip (seal_at seals 0)),
              said (takes m) is (commits h c reads),
              refl,
              record { head_lawful = head_is (round_in h) late; content_lawful = (f.content_lawful.slip_fits, one_long e) },
            ),
          )

      select_well : (c : Cert (List ℕ)) → Reads b m h (select c) → Well Answer (on_select b h c)
      select_well c reads =
          let f = lawful_is (select c) reads in
          lets_go taken (in_round_of (with_candidates b.view (shelved c.slip b.view.candidates)) (round_in h)) refl refl (head_ranges h f.head_lawful).1 clean
          (λ held inner of. said (takes m) is (releases_selected h c held inner reads of))

      release_well : (l : List ℕ) (inner : Locked (List ℕ)) (x : List ℕ) → Reads b m h (release l inner x) → height_in h ≡ b.view.height → Well Answer (on_release b l inner)
      release_well l inner x reads same =
          let f = lawful_is (release l inner x) reads in
          let v : View = b.view in
          cond_both (outranks v inner) (with_held (with_candidates v (locked_at inner.cert.slip (round_in inner.head) (shelved inner.cert.slip (unlocked v.candidates)))) (Some (record { slip = inner.cert.slip; round = round_in inner.head; bytes = l }))) v (Clean pool n)
          (λ top. record {
            begun = clean.begun;
            sealed = clean.sealed;
            holds = (
              inner,
              record {
                bytes_are = f.content_lawful.0;
                head_fits = f.content_lawful.1.0;
                cert_fits = f.content_lawful.1.1.0;
                height_is = f.content_lawful.1.1.1.0 ∙ same;
                slip_is = refl;
                round_is = refl;
              },
            );
          })
          (λ low. clean)

      content_well : (c : Content (List ℕ)) → Reads b m h c → Passed b (record { head = h; content = c }) → Well Answer (plan_of b m h c)
      content_well (change page x y) reads passed = change_well page x y reads
      content_well (lock c) reads passed = lock_well c reads passed.height_is
      content_well (select c) reads passed = select_well c reads
      content_well (commit s x) reads passed = clean
      content_well (decide c) reads passed = record { begun = omega arith; sealed = blank_seals n (members pool); holds = tt }
      content_well (release l inner x) reads passed = release_well l inner x reads passed.height_is

  -- the end of a call
  abbrev Ends : {X : Type 0} → Done X → Type 0
  Ends d = length d.sealed ≤ length seals → Clean pool n d.view × ((m : List ℕ) → d.wrote ≡ Some m → TurnFits n call → Speaks m)

  module _ {X : Type 0} (fill size : ℕ) (long : All (λ (s : List ℕ). length s ≡ n) seals) (clean : Clean pool n b.view) where
    carried_well : (p : Plan X) (o : Option Draft) → WellBy p o → Ends (carried b fill size p o seals)
    carried_well p None f = λ enough. (f, λ m e. absurd (none_some e))
    carried_well p (Some d) f =
        cond_both (leb (fill + draft_size d n) size) (cond (leb (length d.wants) b.sealer.left) (goes b p d seals) (wears b d)) (refusing {X = X} b OutboxShort) Ends
        (λ room.
        cond_both (leb (length d.wants) b.sealer.left) (goes b p d seals) (wears b d) Ends
        (λ many enough. let g = f (long, enough) in (g.0, λ m e t. subst Speaks (some_same e) (g.1 t)))
        (λ few enough. (clean, λ m e. absurd (none_some e))))
        (λ short enough. (clean, λ m e. absurd (none_some e)))

    settled_well : (judged : Result (Plan X) Refusal) → Passing (Well X) judged → Ends (settled b fill size judged seals)
    settled_well (Err why) refuses = λ enough. (clean, λ m e. absurd (none_some e))
    settled_well (Ok p) (passes f) = carried_well p p.draft f

-- every call that fits -------------------------------------------------------------------------------------------------

-- the start height is in range
start_begun : (s : Settings) → settings_lawful s ≡ true → 1 ≤ s.start_height
start_begun s e =
    let r = and_parts (height_in_range (record { 0 = s.start_height })) _ e in
    leb-true 1 s.start_height (and_parts (leb 1 s.start_height) (leb s.start_height last_height) r.0).0

module _ (a : Assembly) (w : World) (act : Act) where
  abbrev here : Box
  here = box_of a act.who (w.stations act.who)

  -- what is known of an open replica
  record Known : Type 0 where
    low : act.who < members (w.stations act.who).settings.pool
    fair : Fair (members (w.stations act.who).settings.pool) (w.stations act.who).view
    clean : Clean (w.stations act.who).settings.pool (a.long act.who) (w.stations act.who).view

  module _ (known : (w.stations act.who).live ≡ true → Known) (long : All (λ (s : List ℕ). length s ≡ a.long act.who) act.seals) where
    abbrev Outcome : Call → Type 0
    Outcome c =
        length (step_by here act c).sealed ≤ length act.seals
        → Clean (settings_by (w.stations act.who).settings c).pool (a.long act.who) (step_by here act c).view
        × ((m : List ℕ) → written_by here act c ≡ Some m → ((w.stations act.who).live ≡ true) × (TurnFits (a.long act.who) c → Speaks here c act.seals m))

    settles : {X : Type 0} (c : Call) (live : (w.stations act.who).live ≡ true) (judged : Result (Plan X) Refusal) → Passing (Well here c act.seals X) judged
        → length (settled here act.fill act.size judged act.seals).sealed ≤ length act.seals
        → Clean (w.stations act.who).settings.pool (a.long act.who) (settled here act.fill act.size judged act.seals).view
        × ((m : List ℕ) → (settled here act.fill act.size judged act.seals).wrote ≡ Some m → ((w.stations act.who).live ≡ true) × (TurnFits (a.long act.who) c → Speaks here c act.seals m))
    settles c live judged f enough =
        let g = settled_well here c act.seals act.fill act.size long (known live).clean judged f enough in
        (g.0, λ m e. (live, λ t. g.1 m e t))

    call_well : (c : Call) → Fitting a w act c → Outcome c
    call_well (opens s) fit =
        λ enough. (record { begun = start_begun s fit.1.0; sealed = blank_seals (a.long act.who) (members s.pool); holds = tt }, λ m e. absurd (none_some e))
    call_well (offers s) fit =
        settles (offers s) fit.0 (judge_offer here s) (offer_walk here (Well here (offers s) act.seals) s (λ chain. (known fit.0).clean))
    call_well begins fit =
        let k = known fit in
        settles begins fit (judge_begin here)
        (begin_walk here (Well here begins act.seals) (λ rests. states here begins act.seals k.low k.fair k.clean taken here.view 0 refl k.fair k.clean (omega arith) states_first))
    call_well (ticks t) fit =
        let k = known fit in
        settles (ticks t) fit (judge_tick here t) (tick_walk here (Well here (ticks t) act.seals) t (timed_well here (ticks t) act.seals k.low k.fair k.clean t refl))
    call_well (takes m) fit =
        let k = known fit.0 in
        settles (takes m) fit.0 (judge_message here m)
        (message_walk here (Well here (takes m) act.seals) m (λ s is passed. content_well here (takes m) act.seals k.low k.fair k.clean m fit.1.0 refl s.head s.content is passed))
    call_well turns fit = settles turns fit (judge_opening here) (opening_walk here (Well here turns act.seals) (known fit).clean)
    call_well (forwards t rs) fit =
        let k = known fit in
        settles (forwards t rs) fit (judge_forward here t rs)
        (forward_walk here (Well here (forwards t rs) act.seals) rs t
        (λ s is. locks_well here (forwards t rs) act.seals k.low k.fair k.clean t rs s refl is)
        (λ s is due. selects_well here (forwards t rs) act.seals k.low k.fair k.clean t rs s refl is due))
    call_well (counts t rs m) fit =
        settles (counts t rs m) fit.0 (judge_commit here t rs m) (commit_walk here (Well here (counts t rs m) act.seals) t rs (λ r. (known fit.0).clean) m)
    call_well (closes t rs) fit =
        let k = known fit in
        settles (closes t rs) fit (judge_closing here t rs)
        (closing_walk here (Well here (closes t rs) act.seals) t rs (λ many. decides_well here (closes t rs) act.seals k.low k.fair k.clean t rs refl many))

-- all along a run
module _ (a : Assembly) (start : ℕ → Station) where
  abbrev Kept : List Act → Type 0
  Kept run = (i : ℕ) → ((played a start run).stations i).live ≡ true → Clean ((played a start run).stations i).settings.pool (a.long i) ((played a start run).stations i).view

  knows : (run : List Act) (act : Act) → LawfulRun a start (act ∷ run) → Kept run → ((played a start run).stations act.who).live ≡ true → Known a (played a start run) act
  knows run act lawful kept live =
      let good = good_run a start run lawful.0 in
      let same = good.pools act.who live in
      record {
        low = subst (λ p. act.who < members p) (sym same) lawful.1.0;
        fair = subst (λ p. Fair (members p) ((played a start run).stations act.who).view) (sym same) (good.fair act.who live);
        clean = kept act.who live;
      }

  kept_run : (run : List Act) → LawfulRun a start run → WellSealed a start run → Kept run
  kept_run [] shut sealed i live = absurd (both_ways (start i).live (shut i) live)
  kept_run (act ∷ run) lawful sealed i live =
      let w : World = played a start run in
      cond_both (eqb i act.who) (station_after a w act) (w.stations i) (λ (x : Station). x.live ≡ true → Clean x.settings.pool (a.long i) x.view)
      (λ e live.
      subst (λ k. Clean (station_after a w act).settings.pool (a.long k) (station_after a w act).view) (sym (eqb-true i act.who e))
      (call_well a w act (knows run act lawful (kept_run run lawful.0 sealed.0)) sealed.1.0 act.call lawful.1.1.1 sealed.1.1).0)
      (λ e live. kept_run run lawful.0 sealed.0 i live)
      live

pub writes_read_back_lem : WritesReadBack
writes_read_back_lem a start run act lawful sealed short turn m wrote =
    let w : World = played a start run in
    let b : Box = here a w act in
    let g = (call_well a w act (knows a start run act lawful (kept_run a start run lawful.0 sealed.0)) sealed.1.0 act.call lawful.1.1.1 sealed.1.1).1 m wrote in
    let spoken = g.1 turn in
    let s : Sent (List ℕ) = spoken.0 in
    let same : b.settings.pool ≡ a.pool = (good_run a start run lawful.0).pools act.who g.0 in (
      s,
      spoken.1,
      spoken.2,
      subst (λ p. fields p (a.long act.who) m ≡ Some s) same
          (ap (fields b.settings.pool (a.long act.who)) spoken.2 ∙ round_trip.reads_back b.settings.pool (a.long act.who) s short spoken.3),
    )
