-- A reader comes to its end: each body that it hands out is one fewer to come.
use Rattle.std.proofs.Common.{Some, None, Option}
use Rattle.std.specs.Iterator.{MakesProgress, item_count}
use Rattle.std.specs.Option.{option_map}
use Rattle.message.specs.Layout.{left}
use Rattle.message.specs.Steps.{Nexted}
use Rattle.message.specs.Views.{place_of, entry_of}
use Rattle.message.specs.declared.readers.Body.{Body}
use Rattle.message.specs.declared.readers.Reader.{Reader}
use Rattle.message.proofs.Reading.{nearer}

module _ (can : Reader → Type 0) (may : (r : Reader) → can r) where
  pub going : (s t : Reader) (r : Option Body) → Nexted (place_of s) (place_of t) (option_map entry_of r) → MakesProgress can (item_count (λ (x : Reader). left (place_of x))) s r t
  going s t None n = record { on = λ f. tt; keeps = tt; rests = λ f. tt }
  going s t (Some b) n = record { on = λ f. (may t, tt, nearer (place_of s) (place_of t) (entry_of b) n); keeps = may t; rests = λ f. tt }
