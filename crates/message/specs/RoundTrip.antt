-- Every written message reads back as its fields, and no other bytes read as those fields.
use Rattle.std.specs.Prelude.{◌≡◌, ℕ, ◌≤◌, List, Some, Option}
use Rattle.base.specs.Numbers.{Bytes}
use Rattle.base.specs.declared.pools.Pool.{Pool}
use Rattle.message.specs.Contents.{Sent, on_sent}
use Rattle.message.specs.Encoding.{encoded, Lawful}
use Rattle.message.specs.Layout.{Piece}
use Rattle.message.specs.Shapes.{parsed}
use Rattle.std.specs.Option.{option_map}

-- the fields that a message says, without the places of its parts
abbrev pub fields : Pool → ℕ → List ℕ → Option (Sent (List ℕ))
fields pool n m = option_map (on_sent (λ (p : Piece). p.bytes)) (parsed pool n m)

pub record RoundTrip : Type 0 where
  -- what is written of lawful fields reads back as them
  pub reads_back : (pool : Pool) (n : ℕ) (s : Sent (List ℕ)) → n ≤ 80 → Lawful pool n s → fields pool n (encoded s) ≡ Some s
  -- bytes that read as these fields are the bytes that are written of them, and no others
  pub reads_only : (pool : Pool) (n : ℕ) (m : List ℕ) (s : Sent (List ℕ)) → Bytes m → fields pool n m ≡ Some s → m ≡ encoded s
  -- what is read is lawful
  pub reads_lawful : (pool : Pool) (n : ℕ) (m : List ℕ) (s : Sent (List ℕ)) → Bytes m → fields pool n m ≡ Some s → Lawful pool n s
