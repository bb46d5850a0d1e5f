-- The lock message that is held is that of the highest lock; what a release does.
use Rattle.std.proofs.Common.{◌≡◌, ℕ, ◌+◌, ◌<◌, ◌≤◌, max, true, false, cond, eqb, ltb, leb, List, [], ◌∷◌, ◌++◌, length, is_ok, Some, None, Ok, Err, Option, Result, sym, refl, ap, ◌∙◌, subst, inl, inr, arith}
use Rattle.agree.proofs.Log.{in_old, all_in, all_from_in, none_some, some_same}
use Rattle.agree.specs.Lists.{In}
use Rattle.agree.specs.Pool.{Lock}
use Rattle.base.specs.declared.refusals.Refusal.{Refusal}
use Rattle.base.specs.declared.refusals.Refusal.TheVariants.{OutboxShort}
use Rattle.base.specs.declared.slips.Slip.{Slip}
use Rattle.base.specs.declared.stages.Stage.TheVariants.{Locking}
use Rattle.protocol.proofs.Slips.{slip_same, slip_itself}
use Rattle.message.specs.Contents.{Locked, Content, change, lock, select, commit, decide, release, Sent}
use Rattle.message.specs.declared.shapes.Head.{Head}
use Rattle.protocol.specs.Calls.{judge_offer, judge_begin, judge_tick}
use Rattle.protocol.specs.Judging.{round_in, sender_in, latest_of, repeats, above_all, outranks}
use Rattle.protocol.specs.Messages.{Answer, taken, shelved_page, holding, on_change, on_release, plan_of, judge_message}
use Rattle.protocol.specs.Plans.{Draft, Plan, Done, draft_size, refusing, goes, wears, carried, settled}
use Rattle.protocol.specs.Rounds.{is_changing, known, shelved, raised, locked_at, unlocked, lock_in, locks_of, beats, best_of, highest_lock, keep_only, quorate, onward, moved, stated, called_for, highest_round, recorded_by, with_candidates, with_latest, plainly, with_held}
use Rattle.protocol.specs.Runs.{Assembly, Call, opens, offers, begins, ticks, takes, turns, forwards, counts, closes, Act, Station, World, box_of, step_by, station_after, Fitting, played}
use Rattle.protocol.specs.State.{Settings, Candidate, Held, View, Box, one_page}
use Rattle.protocol.specs.Laws.{HighestHeld, HeldIsHighest, ReleaseNeedsHigher}
use Rattle.protocol.specs.Turns.{judge_opening, judge_forward, judge_commit, judge_closing}
use Rattle.protocol.proofs.Changing.{locks_page}
use Rattle.protocol.proofs.Highest.{kept_is, kept_there}
use Rattle.protocol.proofs.Locks.{on, locked_from, locked_there, above_each}
use Rattle.protocol.proofs.Settling.{Passing, passes, refuses}
use Rattle.protocol.proofs.Shelf.{in_new, in_either, locks_shelved, locks_unlocked, known_shelved}
use Rattle.protocol.proofs.Walking.{Timed, offer_walk, begin_walk, tick_walk, message_walk, opening_walk, forward_walk, commit_walk, closing_walk}
use Rattle.std.proofs.lemmas.Bool.{and_parts, and_from, and_cases, both_ways, cond_both, or_cases, or_parts, eq-eqb, eqb-true, lt-ltb, ltb-true, ltb-false, false≢true}
use Rattle.std.specs.List.{AllByRecursion as All}

-- locks --------------------------------------------------------------------------------------------------------------

-- some lock is not below, where not every lock is
not_above : (r : ℕ) (ls : List (Lock Slip)) → above_all r ls ≡ false → (l : Lock Slip) × In l ls × (r ≤ l.round)
not_above r [] e = absurd (both_ways true e refl)
not_above r (l ∷ ls) e =
    elim (and_cases (ltb l.round r) (above_all r ls) e) [
      | inl here ↦ (l, inl refl, ltb-false l.round r here)
      | inr later ↦ (let k = not_above r ls later in (k.0, inr k.1, k.2))
    ]

above_from : (r : ℕ) (ls : List (Lock Slip)) → All (λ (l : Lock Slip). l.round < r) ls → above_all r ls ≡ true
above_from r [] all = refl
above_from r (l ∷ ls) all = and_from (ltb l.round r) (above_all r ls) (lt-ltb l.round r all.0) (above_from r ls all.1)

-- a lock that is no lower than a new one stays as it is
raised_stays : (s : Slip) (r : ℕ) (o : Option ℕ) (l : Lock Slip) → r ≤ l.round → In l (lock_in s o) → In l (lock_in s (raised o r))
raised_stays s r None l le h = absurd h
raised_stays s r (Some k) l le h =
    elim h [
      | inl e ↦ inl (e ∙ ap (on s) (let same : l.round ≡ k = ap (λ (x : Lock Slip). x.round) e in let m : k ≡ max k r = omega arith in m))
      | inr n ↦ absurd n
    ]

locked_stays : (s : Slip) (r : ℕ) (cs : List Candidate) (l : Lock Slip) → r ≤ l.round → In l (locks_of cs) → In l (locks_of (locked_at s r cs))
locked_stays s r [] l le h = absurd h
locked_stays s r (c ∷ cs) l le h =
    cond_both (one_page c.slip s) (record { slip = c.slip; lock = raised c.lock r } ∷ cs) (c ∷ locked_at s r cs) (λ ds. In l (locks_of ds))
    (λ e.
    elim (in_either (lock_in c.slip c.lock) (locks_of cs) l h) [
      | inl n ↦ in_new (lock_in c.slip (raised c.lock r)) (locks_of cs) l (raised_stays c.slip r c.lock l le n)
      | inr o ↦ in_old (lock_in c.slip (raised c.lock r)) (locks_of cs) l o
    ])
    (λ e.
    elim (in_either (lock_in c.slip c.lock) (locks_of cs) l h) [
      | inl n ↦ in_new (lock_in c.slip c.lock) (locks_of (locked_at s r cs)) l n
      | inr o ↦ in_old (lock_in c.slip c.lock) (locks_of (locked_at s r cs)) l (locked_stays s r cs l le o)
    ])

-- the only lock, where none was held
bare_lock : (c : Candidate) (r : ℕ) (ls : List (Lock Slip)) → lock_in c.slip c.lock ++ ls ≡ [] → (lock_in c.slip (raised c.lock r) ≡ on c.slip r ∷ []) × ((lock_in c.slip c.lock ≡ []) × (ls ≡ []))
bare_lock c r ls e = by c.lock e
  where
    by : (o : Option ℕ) → lock_in c.slip o ++ ls ≡ [] → (lock_in c.slip (raised o r) ≡ on c.slip r ∷ []) × ((lock_in c.slip o ≡ []) × (ls ≡ []))
    by None e = (refl, (refl, e))
    by (Some k) e = absurd (let z : ◌≡◌ {A = ℕ} 0 1 = cc in omega arith)

only_lock : (s : Slip) (r : ℕ) (cs : List Candidate) → known s cs ≡ true → locks_of cs ≡ [] → locks_of (locked_at s r cs) ≡ on s r ∷ []
only_lock s r [] e none = absurd (false≢true e)
only_lock s r (c ∷ cs) e none =
    let bare = bare_lock c r (locks_of cs) none in
    cond_both (one_page c.slip s) (record { slip = c.slip; lock = raised c.lock r } ∷ cs) (c ∷ locked_at s r cs) (λ ds. locks_of ds ≡ on s r ∷ [])
    (λ hit t. (bare.0 ∙ ap (λ x. on x r ∷ []) (slip_same c.slip s hit)) t ++ bare.1.1 t)
    (λ miss.
    elim (or_cases (one_page c.slip s) (known s cs) e) [
      | inl hit ↦ absurd (both_ways (one_page c.slip s) miss hit)
      | inr there ↦ (λ t. bare.1.0 t ++ only_lock s r cs there bare.1.1 t)
    ])

alone : (s : Slip) (r : ℕ) (cs : List Candidate) → locks_of (locked_at s r (shelved s (unlocked cs))) ≡ on s r ∷ []
alone s r cs = only_lock s r (shelved s (unlocked cs)) (known_shelved s (unlocked cs)) (locks_shelved s (unlocked cs) ∙ locks_unlocked cs)

-- the held one is the highest ------------------------------------------------------------------------------------------

abbrev Top : View → Type 0
Top v = HighestHeld v.held (locks_of v.candidates)

-- a new lock above all: it is there, and the others are below
topped_new : (s : Slip) (r : ℕ) (cs : List Candidate) (m : List ℕ) → above_all r (locks_of cs) ≡ true → HighestHeld (Some (record { slip = s; round = r; bytes = m })) (locks_of (locked_at s r (shelved s cs)))
topped_new s r cs m top =
    let ds : List Candidate = shelved s cs in
    let low : All (λ (l : Lock Slip). l.round < r) (locks_of ds) = subst (All (λ (l : Lock Slip). l.round < r)) (sym (locks_shelved s cs)) (above_each s r (locks_of cs) top) in
    let k = locked_there s r ds (known_shelved s cs) in (
      elim (locked_from s r ds k.0 k.1) [
        | inl is ↦ subst (λ x. In x (locks_of (locked_at s r ds))) is k.1
        | inr old ↦ absurd (let lt = all_in (λ (l : Lock Slip). l.round < r) (locks_of ds) k.0 low old in omega (arith, k.2))
      ],
      all_from_in (λ (l : Lock Slip). l.round ≤ r) (locks_of (locked_at s r ds)) (λ l h.
          elim (locked_from s r ds l h) [
            | inl is ↦ (let m : l.round ≡ r = ap (λ (x : Lock Slip). x.round) is in omega arith)
            | inr old ↦ (let lt = all_in (λ (l : Lock Slip). l.round < r) (locks_of ds) l low old in omega arith)
          ]),
    )

-- a new lock that is not above all: what is held stays the highest
topped_old : (s : Slip) (r : ℕ) (cs : List Candidate) (o : Option Held) → above_all r (locks_of cs) ≡ false → HighestHeld o (locks_of cs) → HighestHeld o (locks_of (locked_at s r (shelved s cs)))
topped_old s r cs None low none = absurd (both_ways (above_all r (locks_of cs)) low (ap (above_all r) none))
topped_old s r cs (Some h) low top =
    let k = not_above r (locks_of cs) low in
    let le : r ≤ h.round = (let up = all_in (λ (l : Lock Slip). l.round ≤ h.round) (locks_of cs) k.0 top.1 k.1 in omega (arith, k.2)) in
    let old : locks_of (shelved s cs) ≡ locks_of cs = locks_shelved s cs in (
      locked_stays s r (shelved s cs) (on h.slip h.round) le (subst (In (on h.slip h.round)) (sym old) top.0),
      all_from_in (λ (l : Lock Slip). l.round ≤ h.round) (locks_of (locked_at s r (shelved s cs))) (λ l x.
          elim (locked_from s r (shelved s cs) l x) [
            | inl is ↦ (let m : l.round ≡ r = ap (λ (y : Lock Slip). y.round) is in omega arith)
            | inr was ↦ all_in (λ (l : Lock Slip). l.round ≤ h.round) (locks_of cs) l top.1 (subst (In l) old was)
          ]),
    )

lock_top : (v : View) (s : Slip) (r : ℕ) (m : List ℕ) → Top v → HighestHeld (holding v s r m) (locks_of (locked_at s r (shelved s v.candidates)))
lock_top v s r m top =
    cond_both (above_all r (locks_of v.candidates)) (Some (record { slip = s; round = r; bytes = m })) v.held (λ o. HighestHeld o (locks_of (locked_at s r (shelved s v.candidates))))
    (λ e. topped_new s r v.candidates m e)
    (λ e. topped_old s r v.candidates v.held e top)

-- of the locks the held one is kept
module _ (h : Held) where
  abbrev own : Lock Slip
  own = on h.slip h.round

  best_own : (l : Lock Slip) (o : Option (Lock Slip)) → l.round ≤ h.round → o ≡ Some own → best_of (Some h) l o ≡ own
  best_own l o le is =
      ap (best_of (Some h) l) is
      ∙ cond_both (beats (Some h) l own) l own (λ x. x ≡ own)
      (λ e.
      elim (or_cases (ltb h.round l.round) _ e) [
        | inl lt ↦ absurd (let m = ltb-true h.round l.round lt in omega arith)
        | inr eq ↦
            (let p = and_parts (eqb h.round l.round) (one_page h.slip l.page) eq in
            let round : h.round ≡ l.round = eqb-true h.round l.round p.0 in
            let page : h.slip ≡ l.page = slip_same h.slip l.page p.1 in
            (λ t. on (sym page t) (sym round t)))
      ])
      (λ e. refl)

  own_best : (o : Option (Lock Slip)) → ((k : Lock Slip) → o ≡ Some k → k.round ≤ h.round) → best_of (Some h) own o ≡ own
  own_best None f = refl
  own_best (Some k) f =
      cond_both (beats (Some h) own k) own k (λ x. x ≡ own)
      (λ e. refl)
      (λ e.
      let p = or_parts (ltb k.round h.round) _ e in
      let le = f k refl in
      let same : k.round ≡ h.round = omega (arith, ltb-false k.round h.round p.0) in
      absurd (both_ways _ p.1 (and_from (eqb k.round h.round) (one_page h.slip h.slip) (eq-eqb k.round h.round same) (slip_itself h.slip))))

  -- the best of a list is one of it
  best_in : (l : Lock Slip) (o : Option (Lock Slip)) (ls : List (Lock Slip)) → ((k : Lock Slip) → o ≡ Some k → In k ls) → In (best_of (Some h) l o) (l ∷ ls)
  best_in l None ls f = inl refl
  best_in l (Some k) ls f = cond_both (beats (Some h) l k) l k (λ x. In x (l ∷ ls)) (λ e. inl refl) (λ e. inr (f k refl))

  highest_in : (ls : List (Lock Slip)) (k : Lock Slip) → highest_lock (Some h) ls ≡ Some k → In k ls
  highest_in [] k e = absurd (none_some e)
  highest_in (l ∷ ls) k e = subst (λ x. In x (l ∷ ls)) (some_same e) (best_in l (highest_lock (Some h) ls) ls (λ j is. highest_in ls j is))

  highest_own : (ls : List (Lock Slip)) → In own ls → All (λ (l : Lock Slip). l.round ≤ h.round) ls → highest_lock (Some h) ls ≡ Some own
  highest_own [] there all = absurd there
  highest_own (l ∷ ls) there all =
      elim there [
        | inl is ↦
            ap Some
            (subst (λ (x : Lock Slip). best_of (Some h) x (highest_lock (Some h) ls) ≡ own) is
            (own_best (highest_lock (Some h) ls) (λ k e. all_in (λ (l : Lock Slip). l.round ≤ h.round) ls k all.1 (highest_in ls k e))))
        | inr old ↦ ap Some (best_own l (highest_lock (Some h) ls) all.0 (highest_own ls old all.1))
      ]

release_top : (cs : List Candidate) (o : Option Held) → HighestHeld o (locks_of cs) → HighestHeld o (locks_of (keep_only (highest_lock o (locks_of cs)) cs))
release_top cs None none = subst (λ ls. locks_of (keep_only (highest_lock None ls) cs) ≡ []) (sym none) (locks_unlocked cs)
release_top cs (Some h) top =
    subst (λ x. HighestHeld (Some h) (locks_of (keep_only x cs))) (sym (highest_own h (locks_of cs) top.0 top.1)) (
      kept_there (own h) cs top.0,
      all_from_in (λ (l : Lock Slip). l.round ≤ h.round) (locks_of (keep_only (Some (own h)) cs)) (λ l x. let m : l.round ≡ h.round = ap (λ (y : Lock Slip). y.round) (kept_is (own h) cs l x) in omega arith),
    )

-- each call keeps it -------------------------------------------------------------------------------------------------

-- every state that a plan may come to
abbrev KeepsTop : (X : Type 0) → Plan X → Type 0
KeepsTop X p = (ss : List (List ℕ)) → Top (p.next ss)

module _ {X : Type 0} (b : Box) (fill size : ℕ) (seals : List (List ℕ)) (top : Top b.view) where
  carried_top : (p : Plan X) (o : Option Draft) → KeepsTop X p → Top (carried b fill size p o seals).view
  carried_top p None f = f []
  carried_top p (Some d) f =
      cond_both (leb (fill + draft_size d b.sealer.long) size) (cond (leb (length d.wants) b.sealer.left) (goes b p d seals) (wears b d)) (refusing {X = X} b OutboxShort)
      (λ (x : Done X). Top x.view)
      (λ room. cond_both (leb (length d.wants) b.sealer.left) (goes b p d seals) (wears b d) (λ (x : Done X). Top x.view) (λ enough. f seals) (λ few. top))
      (λ short. top)

  settled_top : (judged : Result (Plan X) Refusal) → Passing (KeepsTop X) judged → Top (settled b fill size judged seals).view
  settled_top (Err why) refuses = top
  settled_top (Ok p) (passes f) = carried_top p p.draft f

-- going on to locking leaves the locks alone
onward_top : (s : Settings) (u : View) → Top u → Top (onward s u)
onward_top s u top = cond_both (quorate s u.round u) (moved u u.round Locking) u Top (λ q. top) (λ q. top)

shelved_top : (page : Option Slip) (cs : List Candidate) (o : Option Held) → HighestHeld o (locks_of cs) → HighestHeld o (locks_of (shelved_page page cs))
shelved_top page cs o top = subst (HighestHeld o) (sym (locks_page page cs)) top

module _ (b : Box) (top : Top b.view) where
  stated_top : (u : View) (r : ℕ) (page : Option Slip) (ss : List (List ℕ)) → Top u → Top (stated b.settings b.sealer.number u r page ss)
  stated_top u r page ss t = onward_top b.settings _ t

  recorded_top : (u : View) → Top u → (o : Option ℕ) → KeepsTop Answer (recorded_by b taken u o)
  recorded_top u t (Some r) ss = stated_top u r _ ss t
  recorded_top u t None ss = cond_both (is_changing u.stage) (onward b.settings u) u Top (λ e. onward_top b.settings u t) (λ e. t)

  change_top : (h : Head) (page : Option Slip) (x y : List ℕ) → KeepsTop Answer (on_change b h page x y)
  change_top h page x y =
      let v : View = b.view in
      let u : View = with_latest (with_candidates v (shelved_page page v.candidates)) (sender_in h) (record { round = round_in h; page = page; rchg = x; cand = y }) in
      cond_both (repeats (round_in h) page (latest_of v (sender_in h))) (plainly taken v) (recorded_by b taken u (highest_round (called_for b.settings u) u.latest)) (KeepsTop Answer)
      (λ old ss. top)
      (λ new. recorded_top u (shelved_top page v.candidates v.held top) (highest_round (called_for b.settings u) u.latest))

  content_top : (m : List ℕ) (h : Head) (c : Content (List ℕ)) → KeepsTop Answer (plan_of b m h c)
  content_top m h (change page x y) ss = change_top h page x y ss
  content_top m h (lock c) ss = lock_top b.view c.slip (round_in h) m top
  content_top m h (select c) ss = release_top (shelved c.slip b.view.candidates) b.view.held (shelved_top (Some c.slip) b.view.candidates b.view.held top)
  content_top m h (commit s x) ss = top
  content_top m h (decide c) ss = refl
  content_top m h (release l inner x) ss =
      cond_both (outranks b.view inner) (with_held (with_candidates b.view (locked_at inner.cert.slip (round_in inner.head) (shelved inner.cert.slip (unlocked b.view.candidates)))) (Some (record { slip = inner.cert.slip; round = round_in inner.head; bytes = l }))) b.view Top
      (λ e. topped_new inner.cert.slip (round_in inner.head) (unlocked b.view.candidates) l (ap (above_all (round_in inner.head)) (locks_unlocked b.view.candidates)))
      (λ e. top)

  timed_top : Timed b KeepsTop
  timed_top =
      record {
        resting = λ ss. top;
        changing = λ is ss. top;
        locking = λ ss. top;
        committing = λ is ss. release_top b.view.candidates b.view.held top;
        releases = λ is more ss. stated_top b.view (b.view.round + 1) _ ss top;
        counted = λ k ss. top;
      }

-- every call that fits
module _ (a : Assembly) (w : World) (act : Act) (top : (w.stations act.who).live ≡ true → Top (w.stations act.who).view) where
  abbrev here : Box
  here = box_of a act.who (w.stations act.who)

  settles : {X : Type 0} (live : (w.stations act.who).live ≡ true) (judged : Result (Plan X) Refusal) → Passing (KeepsTop X) judged → Top (settled here act.fill act.size judged act.seals).view
  settles live judged f = settled_top here act.fill act.size act.seals (top live) judged f

  call_top : (c : Call) → Fitting a w act c → Top (step_by here act c).view
  call_top (opens s) fit = refl
  call_top (offers s) fit =
      settles fit.0 (judge_offer here s)
      (offer_walk here KeepsTop s (λ chain ss. shelved_top (Some s) here.view.candidates here.view.held (top fit.0)))
  call_top begins fit = settles fit (judge_begin here) (begin_walk here KeepsTop (λ rests ss. stated_top here (top fit) here.view 0 _ ss (top fit)))
  call_top (ticks k) fit = settles fit (judge_tick here k) (tick_walk here KeepsTop k (timed_top here (top fit)))
  call_top (takes m) fit = settles fit.0 (judge_message here m) (message_walk here KeepsTop m (λ s is passed. content_top here (top fit.0) m s.head s.content))
  call_top turns fit = settles fit (judge_opening here) (opening_walk here KeepsTop (λ ss. top fit))
  call_top (forwards t rs) fit = settles fit (judge_forward here t rs) (forward_walk here KeepsTop rs t (λ s is ss. top fit) (λ s is due ss. top fit))
  call_top (counts t rs m) fit = settles fit.0 (judge_commit here t rs m) (commit_walk here KeepsTop t rs (λ r ss. top fit.0) m)
  call_top (closes t rs) fit = settles fit (judge_closing here t rs) (closing_walk here KeepsTop t rs (λ many ss. top fit))

pub held_is_highest_lem : HeldIsHighest
held_is_highest_lem a start [] shut i live = absurd (both_ways (start i).live (shut i) live)
held_is_highest_lem a start (act ∷ run) lawful i live =
    let w : World = played a start run in
    cond_both (eqb i act.who) (station_after a w act) (w.stations i) (λ (x : Station). x.live ≡ true → Top x.view)
    (λ e live. call_top a w act (λ l. held_is_highest_lem a start run lawful.0 act.who l) act.call lawful.1.1.1)
    (λ e live. held_is_highest_lem a start run lawful.0 i live)
    live

-- a release ----------------------------------------------------------------------------------------------------------

-- what a release is to do with a view
abbrev Effect : View → List ℕ → Locked (List ℕ) → View → Type 0
Effect v l inner u =
    ((k : Lock Slip) → In k (locks_of v.candidates) → round_in inner.head ≤ k.round → u ≡ v)
    × (All (λ (k : Lock Slip). k.round < round_in inner.head) (locks_of v.candidates)
    → (u.held ≡ Some (record { slip = inner.cert.slip; round = round_in inner.head; bytes = l })) × (locks_of u.candidates ≡ on inner.cert.slip (round_in inner.head) ∷ []))

release_effect : (b : Box) (l : List ℕ) (inner : Locked (List ℕ)) → Effect b.view l inner ((on_release b l inner).next [])
release_effect b l inner =
    let v : View = b.view in
    let s : Slip = inner.cert.slip in
    let r : ℕ = round_in inner.head in
    cond_both (outranks v inner) (with_held (with_candidates v (locked_at s r (shelved s (unlocked v.candidates)))) (Some (record { slip = s; round = r; bytes = l }))) v (Effect v l inner)
    (λ e. (
      λ k there up. absurd (let low = all_in (λ (x : Lock Slip). x.round < r) (locks_of v.candidates) k (above_each s r (locks_of v.candidates) e) there in omega arith),
      λ low. (refl, alone s r v.candidates),
    ))
    (λ e. (λ k there up. refl, λ low. absurd (both_ways (outranks v inner) e (above_from r (locks_of v.candidates) low))))

module _ (b : Box) (fill size : ℕ) (seals : List (List ℕ)) (E : View → Type 0) where
  abbrev Ends : (X : Type 0) → Plan X → Type 0
  Ends X p = E (carried b fill size p p.draft seals).view

  -- an outcome that is accepted is that of a plan
  accepted : (judged : Result (Plan Answer) Refusal) → Passing (Ends Answer) judged → is_ok (settled b fill size judged seals).answer ≡ true → E (settled b fill size judged seals).view
  accepted (Err why) refuses e = absurd (false≢true e)
  accepted (Ok p) (passes f) e = f

pub release_needs_higher_lem : ReleaseNeedsHigher
release_needs_higher_lem b fill size seals m h l inner own' reads ok =
    let E : View → Type 0 = Effect b.view l inner in
    accepted b fill size seals E (judge_message b m)
    (message_walk b (Ends b fill size seals E) m (λ s is passed.
    subst (λ (x : Sent (List ℕ)). Ends b fill size seals E Answer (plan_of b m x.head x.content)) (some_same (sym reads ∙ is)) (release_effect b l inner)))
    ok
