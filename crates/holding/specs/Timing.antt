-- The limits of times.
use Rattle.std.specs.Prelude.{Bool, ◌&&◌, nat_lt}
use Rattle.holding.specs.declared.times.Times.{Times}
use Rattle.protocol.specs.State.{timely}

abbrev pub times_lawful : Times → Bool
times_lawful t = timely t.d0 && (timely t.d1 && (timely t.d2 && (timely t.d3 && (timely t.g && nat_lt t.g t.d1))))
