-- What a draft lends.
use Rattle.std.specs.Prelude.{[]}
use Rattle.std.specs.Borrow.{Lends, MutBor, Fml}
use mir.Syntax.{named}
use Rattle.outbox.specs.declared.drafts.Draft.{Draft}
use Rattle.outbox.specs.declared.drafts.Fill.{Fill}
use Rattle.outbox.specs.contracts.drafts.Draft.{the_row}
use Rattle.outbox.specs.contracts.drafts.Fill.{the_row as fill_row}

-- the draft over the same fill, as it is now
abbrev pub with_fill : Draft → Fill → Draft
with_fill d w = record d { fill = record d.fill { now = w } }

-- the draft ends over the fill as it is left
abbrev pub LendsFill : MutBor Draft → MutBor Fill → Fml
LendsFill d r = Lends (the_row (record { mir = named 1; lft = [] })) fill_row d r (with_fill d.now)
