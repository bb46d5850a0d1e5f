use Rattle.std.proofs.Common.{◌≡◌, Bool, true, false, not, ◌||◌, Ok, sym, refl, ap, ◌∙◌, subst, arith}
use Rattle.base.specs.Pools.{last_height}
use Rattle.base.specs.Seals.{seal_bytes}
use Rattle.std.specs.Option.{option_map}
use Rattle.std.proofs.lemmas.Bool.{ltb-true}
use Rattle.std.proofs.lemmas.Bool.Decides.{nat_tests}
use Rattle.holding.specs.Views.{box_of}
use Rattle.holding.proofs.Endings.{outcome_as, ends_quiet}
use Rattle.judging.specs.Views.{sent_of, content_in, cert_of, locked_of}
use Rattle.judging.specs.Table.{leads_to}
use Rattle.message.specs.Encoding.{kind_in}
use Rattle.message.specs.declared.shapes.Holds.TheVariants.{Lock}
use Rattle.protocol.specs.Judging.{round_in, sender_in, placed, goes_on, repeats, latest_of}
use Rattle.protocol.specs.Messages.{taken, plan_of, on_change}
use Rattle.protocol.specs.Rounds.{plainly}
use Rattle.moves.proofs.Readings.{change_sealed, lock_short, inner_short, is_kept, kept_as}
use Rattle.moves.proofs.Verdicts.{passed, passed_leads}
use Rattle.moves.proofs.messages.act.Goals as goal

-- one of two, where the first is not
other : (x y : Bool) → (x || y) ≡ true → x ≡ false → y ≡ true
other x y either first = grind (arith, nat_tests)

pub on_change-requires : goal.on_change-requires
on_change-requires g c =
    let b = box_of g.S.Sealer.meaning g.R.Rulebook.admitted g.R.Rulebook.ranked c.args.core.now
    in let s = sent_of c.args.m.now
    in let n = g.S.Checker.seal_long
    in let p = passed b s c.requires.passed
    in λ e. other (repeats (round_in s.head) c.in-Change.page (latest_of b.view (sender_in s.head))) _ (subst (λ k. placed b.view s.head k ≡ true) (ap content_in c.in-Change.is) p.has_place_lem) e

pub on_lock-requires : goal.on_lock-requires
on_lock-requires g c =
    let b = box_of g.S.Sealer.meaning g.R.Rulebook.admitted g.R.Rulebook.ranked c.args.core.now
    in let s = sent_of c.args.m.now
    in let n = g.S.Checker.seal_long
    in let p = passed b s c.requires.passed
    in let is : s.content ≡ content_in (Lock c.in-Lock.c) = ap content_in c.in-Lock.is
    in record {
      short = lock_short c.args.core.now.settings.pool n c.args.message.now s g.met.S.Checker.sizes.1 c.type_inv.message c.requires.read (cert_of c.in-Lock.c) is;
      place = subst (λ k. placed b.view s.head k ≡ true) is p.has_place_lem;
      committing = c.requires.leads ∙ passed_leads b s p ∙ ap (λ k. leads_to b.view.stage (kind_in k)) is;
    }

pub on_select-requires : goal.on_select-requires
on_select-requires g c =
    let b = box_of g.S.Sealer.meaning g.R.Rulebook.admitted g.R.Rulebook.ranked c.args.core.now
    in let s = sent_of c.args.m.now
    in let n = g.S.Checker.seal_long
    in subst (λ k. placed b.view s.head k ≡ true) (ap content_in c.in-Select.is) (passed b s c.requires.passed).has_place_lem

pub on_decide-requires : goal.on_decide-requires
on_decide-requires g c =
    let b = box_of g.S.Sealer.meaning g.R.Rulebook.admitted g.R.Rulebook.ranked c.args.core.now
    in let s = sent_of c.args.m.now
    in let n = g.S.Checker.seal_long
    in ltb-true b.view.height last_height (subst (λ k. goes_on b.view k ≡ true) (ap content_in c.in-Decide.is) (passed b s c.requires.passed).book_goes_on)

pub on_release-requires : goal.on_release-requires
on_release-requires g c =
    let b = box_of g.S.Sealer.meaning g.R.Rulebook.admitted g.R.Rulebook.ranked c.args.core.now
    in let s = sent_of c.args.m.now
    in let n = g.S.Checker.seal_long
    in let p = passed b s c.requires.passed
    in record {
      short = inner_short c.args.core.now.settings.pool n c.args.message.now s g.met.S.Checker.sizes.1 c.type_inv.message c.requires.read _ (locked_of c.in-Release.inner) _ (ap content_in c.in-Release.is);
      place = λ e. other _ _ (subst (λ k. placed b.view s.head k ≡ true) (ap content_in c.in-Release.is) p.has_place_lem) (ap not e);
    }

pub returns-in_err-rchg-in-Change : goal.returns-in_err-rchg-in-Change
returns-in_err-rchg-in-Change g c =
    let b = box_of g.S.Sealer.meaning g.R.Rulebook.admitted g.R.Rulebook.ranked c.args.core.now
    in let s = sent_of c.args.m.now
    in let n = g.S.Checker.seal_long
    in let l = change_sealed c.args.core.now.settings.pool n c.args.message.now s g.met.S.Checker.sizes.1 c.type_inv.message c.requires.read c.in-Change.page _ _ (ap content_in c.in-Change.is)
    in absurd (is_kept n _ g.met.S.Checker.sizes.0 g.met.S.Checker.sizes.1 l.0 (ap (option_map seal_bytes) (sym c.in_err-rchg-in-Change.ensures.ok_part) ∙ c.new.ensures))

pub returns-in_err-cand-in-Change : goal.returns-in_err-cand-in-Change
returns-in_err-cand-in-Change g c =
    let b = box_of g.S.Sealer.meaning g.R.Rulebook.admitted g.R.Rulebook.ranked c.args.core.now
    in let s = sent_of c.args.m.now
    in let n = g.S.Checker.seal_long
    in let l = change_sealed c.args.core.now.settings.pool n c.args.message.now s g.met.S.Checker.sizes.1 c.type_inv.message c.requires.read c.in-Change.page _ _ (ap content_in c.in-Change.is)
    in absurd (is_kept n _ g.met.S.Checker.sizes.0 g.met.S.Checker.sizes.1 l.1 (ap (option_map seal_bytes) (sym c.in_err-cand-in-Change.ensures.ok_part) ∙ c.new-in-Change.ensures))

pub returns-in_ok-cand-in-Change : goal.returns-in_ok-cand-in-Change
returns-in_ok-cand-in-Change g c =
    let b = box_of g.S.Sealer.meaning g.R.Rulebook.admitted g.R.Rulebook.ranked c.args.core.now
    in let s = sent_of c.args.m.now
    in let n = g.S.Checker.seal_long
    in let l = change_sealed c.args.core.now.settings.pool n c.args.message.now s g.met.S.Checker.sizes.1 c.type_inv.message c.requires.read c.in-Change.page _ _ (ap content_in c.in-Change.is)
    in let x = kept_as n _ _ g.met.S.Checker.sizes.0 g.met.S.Checker.sizes.1 l.0 (ap (option_map seal_bytes) (sym c.in_ok-rchg-in-Change.ensures.ok_part) ∙ c.new.ensures)
    in let y = kept_as n _ _ g.met.S.Checker.sizes.0 g.met.S.Checker.sizes.1 l.1 (ap (option_map seal_bytes) (sym c.in_ok-cand-in-Change.ensures.ok_part) ∙ c.new-in-Change.ensures)
    in outcome_as b _ _ _ _ _ _ _ _
    ((λ i. Ok (on_change b s.head c.in-Change.page (x i) (y i))) ∙ ap (λ k. Ok (plan_of b c.args.message.now s.head k)) (sym (ap content_in c.in-Change.is)))
    c.on_change.ensures

pub returns-in-Release : goal.returns-in-Release
returns-in-Release g c =
    let b = box_of g.S.Sealer.meaning g.R.Rulebook.admitted g.R.Rulebook.ranked c.args.core.now
    in let s = sent_of c.args.m.now
    in outcome_as b _ _ _ _ _ _ _ _ (ap (λ k. Ok (plan_of b c.args.message.now s.head k)) (sym (ap content_in c.in-Release.is))) (c.on_release.ensures _ _)

pub returns-in-Lock : goal.returns-in-Lock
returns-in-Lock g c =
    let b = box_of g.S.Sealer.meaning g.R.Rulebook.admitted g.R.Rulebook.ranked c.args.core.now
    in let s = sent_of c.args.m.now
    in let n = g.S.Checker.seal_long
    in outcome_as b _ _ _ _ _ _ _ _ (ap (λ k. Ok (plan_of b c.args.message.now s.head k)) (sym (ap content_in c.in-Lock.is))) (c.on_lock.ensures (cert_of c.in-Lock.c) refl)

pub returns-in-Select : goal.returns-in-Select
returns-in-Select g c =
    let b = box_of g.S.Sealer.meaning g.R.Rulebook.admitted g.R.Rulebook.ranked c.args.core.now
    in let s = sent_of c.args.m.now
    in let n = g.S.Checker.seal_long
    in outcome_as b _ _ _ _ _ _ _ _ (ap (λ k. Ok (plan_of b c.args.message.now s.head k)) (sym (ap content_in c.in-Select.is))) (c.on_select.ensures (cert_of c.in-Select.c) refl)

pub returns-in-Commit : goal.returns-in-Commit
returns-in-Commit g c =
    let b = box_of g.S.Sealer.meaning g.R.Rulebook.admitted g.R.Rulebook.ranked c.args.core.now
    in let s = sent_of c.args.m.now
    in let n = g.S.Checker.seal_long
    in outcome_as b _ _ _ _ _ _ _ _ (ap (λ k. Ok (plan_of b c.args.message.now s.head k)) (sym (ap content_in c.in-Commit.is))) (ends_quiet b _ _ _ _ _ refl refl (plainly taken b.view) refl refl)

pub returns-in-Decide : goal.returns-in-Decide
returns-in-Decide g c =
    let b = box_of g.S.Sealer.meaning g.R.Rulebook.admitted g.R.Rulebook.ranked c.args.core.now
    in let s = sent_of c.args.m.now
    in let n = g.S.Checker.seal_long
    in outcome_as b _ _ _ _ _ _ _ _ (ap (λ k. Ok (plan_of b c.args.message.now s.head k)) (sym (ap content_in c.in-Decide.is))) (c.on_decide.ensures _ _ (cert_of c.in-Decide.c) refl)
