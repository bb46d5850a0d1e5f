use Rattle.std.proofs.Common.{◌≡◌, rules, ap, sym, ◌∙◌, ◌&&◌, None}
use Rattle.std.specs.ControlFlow.{continue_value}
use Rattle.base.specs.Sorts.{sort_number}
use Rattle.message.specs.Layout.{left, whole}
use Rattle.message.specs.Shapes.{ended}
use Rattle.message.specs.Views.{place_of}
use Rattle.message.proofs.Rising.{risen}
use Rattle.message.proofs.parsing.Format.all_votes.Goals as goal

pub returns-then-is_some : goal.returns-then-is_some
returns-then-is_some c =
    let h = risen (sort_number c.args.sort) c.args.self.seal_len _ (λ s r. s ≡ continue_value r) (λ e r. r ≡ None) _ (λ low b v q called. search rules) (λ v k is. is) (λ v e is. is) (λ e v is. is) c.args.reader c.try_fold-low.new.self c.try_fold-low.result 0 c.try_fold-low.ensures.ran
    in let u = place_of c.try_fold-low.new.self
    in c.finished.ensures.wholly ∙ ap (λ b. b && (ended (left u) && whole u)) (sym (sym c.is_some.ensures ∙ c.if-is_some.true)) ∙ h

pub returns-else-is_some : goal.returns-else-is_some
returns-else-is_some c =
    let h = risen (sort_number c.args.sort) c.args.self.seal_len _ (λ s r. s ≡ continue_value r) (λ e r. r ≡ None) _ (λ low b v q called. search rules) (λ v k is. is) (λ v e is. is) (λ e v is. is) c.args.reader c.try_fold-low.new.self c.try_fold-low.result 0 c.try_fold-low.ensures.ran
    in let u = place_of c.try_fold-low.new.self
    in c.if-is_some.false ∙ ap (λ b. b && (ended (left u) && whole u)) (sym (sym c.is_some.ensures ∙ c.if-is_some.false)) ∙ h
