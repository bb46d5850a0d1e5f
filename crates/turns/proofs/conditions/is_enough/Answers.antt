use Rattle.std.proofs.Common.{leb, sym}
use Rattle.std.proofs.lemmas.List.{length-map}
use Rattle.ballots.specs.Views.{commit_view}
use Rattle.turns.proofs.conditions.is_enough.Goals as goal

pub returns : goal.returns
returns c = λ i. leb (c.size.ensures i) (sym (length-map c.args.records.now commit_view) i)
