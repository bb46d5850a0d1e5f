-- What comparing locks comes to.
use Rattle.std.proofs.Common.{◌≡◌, ℕ, Bool, true, false, cond, ltb, List, Some, None, Ok, Option, sym, refl, ap, ◌∙◌, Bor}
use Rattle.base.specs.declared.refusals.Refusal.TheVariants.{Stranger}
use Rattle.message.specs.Comparing.{higher_of}
use Rattle.message.specs.Contents.{Locked}
use Rattle.message.specs.Layout.{Piece}
use Rattle.protocol.specs.Plans.{unless}
use Rattle.protocol.specs.State.{Box, Held}
use Rattle.moves.specs.Comparing.{compared_to, compared, handed}
use Rattle.moves.specs.Refusing.{is_member}

either : (t : Bool) (p q : Bor (List ℕ)) → handed (cond t (Ok q) (Ok p)) ≡ cond t (Ok q.now) (Ok p.now)
either true p q = refl
either false p q = refl

-- the higher part, by its bytes
pub handed_higher : (x y : Option (Locked Piece)) (p q : Bor (List ℕ)) → handed (higher_of x y p q) ≡ higher_of x y p.now q.now
handed_higher None y p q = refl
handed_higher (Some a) None p q = refl
handed_higher (Some a) (Some b) p q = either (ltb a.head.round.0 b.head.round.0) p q

-- by the message that is held
pub compares : (b : Box) (m : List ℕ) (n : ℕ) (held : Option Held) → b.sealer.long ≡ n → true ≡ is_member b → b.view.held ≡ held → compared_to b.settings.pool n held m ≡ compared b m
compares b m n held long member is =
    (λ i. compared_to b.settings.pool (sym long i) (sym is i) m) ∙ ap (λ t. unless t Stranger (compared_to b.settings.pool b.sealer.long b.view.held m)) member
