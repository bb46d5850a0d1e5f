use Rattle.std.proofs.Common.{sym, ◌∙◌}
use Rattle.message.specs.Views.{place_of}
use Rattle.message.proofs.Reading.{length_left}
use Rattle.message.proofs.readers.Reader.remaining.Goals as goal

pub returns : goal.returns
returns c = c.saturating_sub.ensures ∙ sym (length_left (place_of c.args.self.now))
