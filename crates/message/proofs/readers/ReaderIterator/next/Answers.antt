use Rattle.std.specs.Option.{option_map}
use Rattle.message.specs.Views.{place_of, entry_of}
use Rattle.message.proofs.Going.{going}
use Rattle.message.proofs.Reading.{nexted}
use Rattle.message.proofs.readers.ReaderIterator.next.Goals as goal

pub returns : goal.returns
returns c =
    let n = nexted (place_of c.args.self.now) (place_of c.next.new.self) (option_map entry_of c.next.result) c.next.ensures.body c.next.ensures.after
    in record { steps = n; goes = going _ (λ r. tt) c.args.self.now c.next.new.self c.next.result n }
