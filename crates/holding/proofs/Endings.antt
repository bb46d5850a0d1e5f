-- The ways in which a call ends.
use Rattle.std.proofs.Common.{◌≡◌, ℕ, ◌-◌, Bool, true, false, cond, List, [], length, Some, None, Ok, Err, Option, Result, sym, refl, ap, ◌∙◌, subst, inl, inr, arith}
use Rattle.base.specs.declared.refusals.Refusal.{Refusal}
use Rattle.base.specs.declared.refusals.Refusal.TheVariants.{OutboxShort}
use Rattle.protocol.specs.Plans.{Draft, Plan, Done, settled, carried, quiet, goes, wears, refusing}
use Rattle.protocol.specs.State.{View, Box, Latest}
use Rattle.seal.specs.Meaning.{Meaning}
use Rattle.sending.specs.Sending.{Good, Sending, has_room, has_seals}
use Rattle.holding.specs.Outcome.{left_as, Ends, Outcome}

-- a replica with another sealer and another view
abbrev pub with_sealer : Box → Meaning → View → Box
with_sealer b m v = record { settings = b.settings; sealer = m; rules = b.rules; view = v }

module _ {X : Type 0} (b after : Box) (fill fill' : ℕ) (out out' : List ℕ) where
  -- the same judgement, told otherwise
  pub outcome_as : (j k : Result (Plan X) Refusal) (r : Result X Refusal) → j ≡ k → Outcome b after fill fill' out out' j r → Outcome b after fill fill' out out' k r
  outcome_as j k r same o = subst (λ z. Outcome b after fill fill' out out' z r) same o

  module _ (same_fill : fill' ≡ fill) (same_out : out' ≡ out) where
    -- refused, and nothing is changed
    pub ends_refused : (why : Refusal) → after ≡ b → Outcome {X = X} b after fill fill' out out' (Err why) (Err why)
    ends_refused why same = record { seals = []; good = tt; ends = record { answers = refl; leaves = same; writes = same_out; fills = same_fill } }

    -- taken, without a message
    pub ends_quiet : (p : Plan X) → p.draft ≡ None → after ≡ with_sealer b b.sealer (p.next []) → Outcome b after fill fill' out out' (Ok p) (Ok p.answer)
    ends_quiet p none same =
        let done : quiet b p ≡ settled b fill (length out) (Ok p) [] = ap (λ d. carried b fill (length out) p d []) (sym none)
        in record {
          seals = [];
          good = subst (λ (d : Done X). Good b.sealer d.sealed []) done tt;
          ends = subst (Ends b after fill fill' out out' (Ok p.answer)) done (record { answers = refl; leaves = same; writes = same_out; fills = same_fill });
        }

  module _ (p : Plan X) (d : Draft) (due : p.draft ≡ Some d) where
    -- what the tests of a draft come to
    comes : (s : List (List ℕ)) (room seals : Bool) → has_room b.sealer d fill out ≡ room → has_seals b.sealer d ≡ seals → cond room (cond seals (goes b p d s) (wears b d)) (refusing b OutboxShort) ≡ settled b fill (length out) (Ok p) s
    comes s room seals r t = (λ i. cond (sym r i) (cond (sym t i) (goes b p d s) (wears b d)) (refusing b OutboxShort)) ∙ ap (λ o. carried b fill (length out) p o s) (sym due)

    short : (s : List (List ℕ)) → has_room b.sealer d fill out ≡ false → refusing b OutboxShort ≡ settled b fill (length out) (Ok p) s
    short s r = comes s false (has_seals b.sealer d) r refl

    -- the message is sealed and stands in the outbox
    pub ends_sent : (m : Meaning) (s : List (List ℕ)) → Sending b.sealer m d fill fill' out out' (Ok s) → after ≡ with_sealer b m (p.next s) → Outcome b after fill fill' out out' (Ok p) (Ok p.answer)
    ends_sent m s w same =
        let done = comes s true true w.room w.enough
        in record {
          seals = s;
          good = subst (λ (e : Done X). Good b.sealer e.sealed s) done w.good;
          ends =
              subst (Ends b after fill fill' out out' (Ok p.answer)) done
              (record { answers = refl; leaves = same ∙ ap (λ z. with_sealer b z (p.next s)) w.spent; writes = w.outbox; fills = w.filled });
        }

    -- it is not
    pub ends_unsent : (m : Meaning) (why : Refusal) → Sending b.sealer m d fill fill' out out' (Err why) → after ≡ with_sealer b m b.view → Outcome b after fill fill' out out' (Ok p) (Err why)
    ends_unsent m why (inl s) same =
        let done = short [] s.full
        in record {
          seals = [];
          good = subst (λ (e : Done X). Good b.sealer e.sealed []) done tt;
          ends =
              subst (Ends b after fill fill' out out' (Err why)) done
              (record { answers = ap Err s.short; leaves = same ∙ ap (λ z. with_sealer b z b.view) s.unspent; writes = s.same_outbox; fills = s.same_fill });
        }
    ends_unsent m why (inr w) same =
        let done = comes w.made true false w.fits w.few
        in let none : b.sealer.left - b.sealer.left ≡ 0 = omega arith
        in record {
          seals = w.made;
          good = subst (λ (e : Done X). Good b.sealer e.sealed w.made) done w.made_good;
          ends =
              subst (Ends b after fill fill' out out' (Err why)) done
              (record {
                answers = ap Err w.worn;
                leaves = same ∙ ap (λ z. with_sealer b z b.view) w.all_spent ∙ ap (left_as b b.view) none;
                writes = w.outbox_same;
                fills = w.fill_same;
              });
        }

-- a view with other statements
abbrev pub statements_as : View → List (Option Latest) → View
statements_as v l =
    record { height = v.height; last = v.last; round = v.round; stage = v.stage; ticks = v.ticks; candidates = v.candidates; held = v.held; latest = l; turned = v.turned }

-- the same draft, told otherwise
pub sending_as : (m m' : Meaning) (d e : Draft) (f f' : ℕ) (o o' : List ℕ) (r : Result (List (List ℕ)) Refusal) → d ≡ e → Sending m m' d f f' o o' r → Sending m m' e f f' o o' r
sending_as m m' d e f f' o o' r same s = subst (λ z. Sending m m' z f f' o o' r) same s
