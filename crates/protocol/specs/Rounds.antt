-- Stating a round, recording a statement, entering releasing.
use Rattle.std.specs.Prelude.{ℕ, ◌+◌, max, Bool, true, false, cond, ◌&&◌, ◌||◌, List, [], ◌∷◌, ◌++◌, map, length, Some, None, Option, ◌==◌, nat_le, nat_lt, slice_index_or, slice_set}
use Rattle.base.specs.Pools.{tolerance, quorum}
use Rattle.base.specs.declared.slips.Slip.{Slip}
use Rattle.base.specs.declared.stages.Stage.{Stage}
use Rattle.base.specs.declared.stages.Stage.TheVariants.{Resting, Changing, Locking, Committing, Releasing}
use Rattle.base.specs.declared.statements.Statement.{Statement}
use Rattle.base.specs.declared.statements.Word.{Word}
use Rattle.base.specs.declared.statements.Word.TheVariants.{Rchg, Cand, Rlse}
use Rattle.base.specs.declared.stages.Kind.TheVariants.{Change, Release}
use Rattle.message.specs.Contents.{change}
use Rattle.message.specs.Encoding.{block, blocks}
use Rattle.message.specs.declared.shapes.Head.{Head}
use Rattle.agree.specs.Pool.{Lock}
use Rattle.protocol.specs.Plans.{Draft, Plan}
use Rattle.protocol.specs.State.{Settings, Candidate, Latest, Held, View, Rules, Box, one_page, tally}

abbrev pub is_resting : Stage → Bool
is_resting Resting = true
is_resting Changing = false
is_resting Locking = false
is_resting Committing = false
is_resting Releasing = false

abbrev pub is_changing : Stage → Bool
is_changing Resting = false
is_changing Changing = true
is_changing Locking = false
is_changing Committing = false
is_changing Releasing = false

abbrev pub is_locking : Stage → Bool
is_locking Resting = false
is_locking Changing = false
is_locking Locking = true
is_locking Committing = false
is_locking Releasing = false

abbrev pub is_releasing : Stage → Bool
is_releasing Resting = false
is_releasing Changing = false
is_releasing Locking = false
is_releasing Committing = false
is_releasing Releasing = true

-- candidates ------------------------------------------------------------------------------------------------------

-- the slip is among the candidates
abbrev pub known : Slip → List Candidate → Bool
known s [] = false
known s (c ∷ cs) = one_page c.slip s || known s cs

-- a slip that is not yet among them comes last, without a lock
abbrev pub shelved : Slip → List Candidate → List Candidate
shelved s cs = cond (known s cs) cs (cs ++ record { slip = s; lock = None } ∷ [])

-- there is a place for the slip: at most 16 are kept
abbrev pub has_place : Slip → List Candidate → Bool
has_place s cs = known s cs || nat_lt (length cs) 16

-- a lock's round, unless the slip is already locked in a higher one
abbrev pub raised : Option ℕ → ℕ → Option ℕ
raised None r = Some r
raised (Some l) r = Some (max l r)

abbrev pub locked_at : Slip → ℕ → List Candidate → List Candidate
locked_at s r [] = []
locked_at s r (c ∷ cs) = cond (one_page c.slip s) (record { slip = c.slip; lock = raised c.lock r } ∷ cs) (c ∷ locked_at s r cs)

-- all lock marks go; the slips stay
abbrev pub unlocked : List Candidate → List Candidate
unlocked cs = map (λ (c : Candidate). record { slip = c.slip; lock = None }) cs

-- the locks held: slips with their rounds
abbrev pub lock_in : Slip → Option ℕ → List (Lock Slip)
lock_in s None = []
lock_in s (Some r) = record { page = s; round = r } ∷ []

abbrev pub locks_of : List Candidate → List (Lock Slip)
locks_of [] = []
locks_of (c ∷ cs) = lock_in c.slip c.lock ++ locks_of cs

-- the highest-ranked slip, the top
abbrev pub better_of : (Slip → Slip → Bool) → Slip → Option Slip → Slip
better_of above s None = s
better_of above s (Some b) = cond (above b s) b s

abbrev pub top_of : (Slip → Slip → Bool) → List Candidate → Option Slip
top_of above [] = None
top_of above (c ∷ cs) = Some (better_of above c.slip (top_of above cs))

-- the candidate that is stated: none if two or more slips are locked, the locked slip if one is, else the top, or none
abbrev pub by_locks : List (Lock Slip) → Option Slip → Option Slip
by_locks [] top = top
by_locks (l ∷ []) top = Some l.page
by_locks (l ∷ k ∷ ls) top = None

abbrev pub candidate_of : Rules → List Candidate → Option Slip
candidate_of rules cs = by_locks (locks_of cs) (top_of rules.above cs)

-- statements ------------------------------------------------------------------------------------------------------

abbrev pub of_round : ℕ → Option Latest → Bool
of_round r None = false
of_round r (Some l) = l.round == r

-- so many members' latest statements are of that round
abbrev pub in_round : ℕ → View → ℕ
in_round r v = tally (of_round r) v.latest

-- a quorum is in the round
abbrev pub quorate : Settings → ℕ → View → Bool
quorate s r v = nat_le (quorum s.pool) (in_round r v)

-- a round above the replica's; when resting its own counts too
abbrev pub is_ahead : View → ℕ → Bool
is_ahead v r = cond (is_resting v.stage) (nat_le v.round r) (nat_lt v.round r)

-- t + 2 members call for that round
abbrev pub called_for : Settings → View → ℕ → Bool
called_for s v r = is_ahead v r && nat_le (tolerance s.pool + 2) (in_round r v)

abbrev pub higher_round : ℕ → Option ℕ → ℕ
higher_round r None = r
higher_round r (Some k) = max r k

-- the highest round of a latest statement that passes a test
abbrev pub highest_round : (ℕ → Bool) → List (Option Latest) → Option ℕ
highest_round test [] = None
highest_round test (None ∷ ls) = highest_round test ls
highest_round test (Some l ∷ ls) = cond (test l.round) (Some (higher_round l.round (highest_round test ls))) (highest_round test ls)

-- the rounds of the replica ---------------------------------------------------------------------------------------

abbrev pub says : Word → ℕ → ℕ → Option Slip → Statement
says word height round page = record { word = word; height = record { 0 = height }; round = record { 0 = round }; page = page }

abbrev pub head_for : ℕ → ℕ → ℕ → Head
head_for sender height round = record { sender = record { 0 = sender }; height = record { 0 = height }; round = record { 0 = round } }

-- seal i of those that were made
abbrev pub seal_at : List (List ℕ) → ℕ → List ℕ
seal_at seals i = slice_index_or seals i []

-- a change for a round with a page or none
abbrev pub change_draft : ℕ → ℕ → ℕ → Option Slip → Draft
change_draft own height round page =
    record {
      kind = Change;
      head = head_for own height round;
      wants = says Rchg height round None ∷ (says Cand height round page ∷ []);
      made = λ seals. blocks (head_for own height round) (change page (seal_at seals 0) (seal_at seals 1));
    }

-- the turn flag is cleared when the replica comes to another round
abbrev pub turned_in : View → ℕ → Bool
turned_in v r = cond (v.round == r) v.turned false

-- a view in that round and stage, with no ticks
abbrev pub moved : View → ℕ → Stage → View
moved v r stage =
    record {
      height = v.height;
      last = v.last;
      round = r;
      stage = stage;
      ticks = 0;
      candidates = v.candidates;
      held = v.held;
      latest = v.latest;
      turned = turned_in v r;
    }

abbrev pub with_candidates : View → List Candidate → View
with_candidates v cs =
    record {
      height = v.height;
      last = v.last;
      round = v.round;
      stage = v.stage;
      ticks = v.ticks;
      candidates = cs;
      held = v.held;
      latest = v.latest;
      turned = v.turned;
    }

abbrev pub with_held : View → Option Held → View
with_held v h =
    record {
      height = v.height;
      last = v.last;
      round = v.round;
      stage = v.stage;
      ticks = v.ticks;
      candidates = v.candidates;
      held = h;
      latest = v.latest;
      turned = v.turned;
    }

abbrev pub with_latest : View → ℕ → Latest → View
with_latest v i l =
    record {
      height = v.height;
      last = v.last;
      round = v.round;
      stage = v.stage;
      ticks = v.ticks;
      candidates = v.candidates;
      held = v.held;
      latest = slice_set v.latest i (Some l);
      turned = v.turned;
    }

abbrev pub with_ticks : View → ℕ → View
with_ticks v k =
    record {
      height = v.height;
      last = v.last;
      round = v.round;
      stage = v.stage;
      ticks = k;
      candidates = v.candidates;
      held = v.held;
      latest = v.latest;
      turned = v.turned;
    }

abbrev pub with_turned : View → View
with_turned v =
    record {
      height = v.height;
      last = v.last;
      round = v.round;
      stage = v.stage;
      ticks = v.ticks;
      candidates = v.candidates;
      held = v.held;
      latest = v.latest;
      turned = true;
    }

-- on to locking where a quorum is in the round
abbrev pub onward : Settings → View → View
onward s v = cond (quorate s v.round v) (moved v v.round Locking) v

-- the replica records its own statement, takes the round and goes to changing, or on to locking
abbrev pub stated : Settings → ℕ → View → ℕ → Option Slip → List (List ℕ) → View
stated s own v r page seals =
    onward s (moved (with_latest v own (record { round = r; page = page; rchg = seal_at seals 0; cand = seal_at seals 1 })) r Changing)

-- states a round from a view
abbrev pub stating : {X : Type 0} → Box → X → View → ℕ → Plan X
stating b x v r =
    record {
      answer = x;
      next = stated b.settings b.sealer.number v r (candidate_of b.rules v.candidates);
      draft = Some (change_draft b.sealer.number v.height r (candidate_of b.rules v.candidates));
    }

-- no message, and the view after
abbrev pub plainly : {X : Type 0} → X → View → Plan X
plainly x v = record { answer = x; next = λ seals. v; draft = None }

-- after a statement was recorded: states the highest round that t + 2 call for; else, if changing, goes on to locking
-- where a quorum is in its round
abbrev pub recorded_by : {X : Type 0} → Box → X → View → Option ℕ → Plan X
recorded_by b x v (Some r) = stating b x v r
recorded_by b x v None = plainly x (cond (is_changing v.stage) (onward b.settings v) v)

abbrev pub recorded : {X : Type 0} → Box → X → View → Plan X
recorded b x v = recorded_by b x v (highest_round (called_for b.settings v) v.latest)

-- releasing -------------------------------------------------------------------------------------------------------

abbrev pub is_held : Option Held → Slip → Bool
is_held None s = false
is_held (Some h) s = one_page h.slip s

-- of two locks the higher; of equals the one whose message is held
abbrev pub beats : Option Held → Lock Slip → Lock Slip → Bool
beats h l k = nat_lt k.round l.round || (k.round == l.round && is_held h l.page)

abbrev pub best_of : Option Held → Lock Slip → Option (Lock Slip) → Lock Slip
best_of h l None = l
best_of h l (Some k) = cond (beats h l k) l k

abbrev pub highest_lock : Option Held → List (Lock Slip) → Option (Lock Slip)
highest_lock h [] = None
highest_lock h (l ∷ ls) = Some (best_of h l (highest_lock h ls))

-- only that lock stays
abbrev pub keep_only : Option (Lock Slip) → List Candidate → List Candidate
keep_only None cs = unlocked cs
keep_only (Some l) cs = map (λ (c : Candidate). record { slip = c.slip; lock = cond (one_page c.slip l.page) (Some l.round) None }) cs

-- a release of the lock message that is held
abbrev pub release_draft : ℕ → View → Held → Draft
release_draft own v h =
    record {
      kind = Release;
      head = head_for own v.height v.round;
      wants = says Rlse v.height v.round (Some h.slip) ∷ [];
      made = λ seals. block 6 0 h.bytes ∷ (block 5 own (seal_at seals 0) ∷ []);
    }

abbrev pub release_of : ℕ → View → Option Held → Option Draft
release_of own v None = None
release_of own v (Some h) = Some (release_draft own v h)

-- keeps only the highest lock, and writes a release if it has one
abbrev pub releasing : {X : Type 0} → Box → X → View → Plan X
releasing b x v =
    record {
      answer = x;
      next = λ seals. moved (with_candidates v (keep_only (highest_lock v.held (locks_of v.candidates)) v.candidates)) v.round Releasing;
      draft = release_of b.sealer.number v v.held;
    }
