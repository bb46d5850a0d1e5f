-- How long a message is.
use Rattle.std.specs.Prelude.{◌≡◌, ℕ, ◌+◌, ◌*◌, Bool, true, false, List, length, Some, None}
use Rattle.base.specs.Pools.{quorum}
use Rattle.base.specs.declared.pools.Pool.{Pool}
use Rattle.base.specs.declared.pools.Pool.TheVariants.{Four, Ten}
use Rattle.base.specs.declared.stages.Kind.{Kind}
use Rattle.base.specs.declared.stages.Kind.TheVariants.{Change, Lock, Select, Commit, Decide, Release}
use Rattle.message.specs.Contents.{Content, change, lock, select, commit, decide, release, Sent}
use Rattle.message.specs.Encoding.{encoded, kind_in, Lawful}

-- header, an entry of four bytes for each body, then a slip of 72 bytes, the sender's own seal and the quorum's
abbrev pub cert_size : ℕ → ℕ → ℕ
cert_size q n = 12 + 4 * (2 + q) + 72 + n + q * n

-- by kind, whether a change names a slip, the pool's size and the length of a seal
abbrev pub size_of : Kind → Bool → Pool → ℕ → ℕ
size_of Change true pool n = 12 + 4 * 3 + 72 + 2 * n
size_of Change false pool n = 12 + 4 * 2 + 2 * n
size_of Lock slip pool n = cert_size (quorum pool) n
size_of Select slip pool n = cert_size (quorum pool) n
size_of Commit slip pool n = 12 + 4 * 2 + 72 + n
size_of Decide slip pool n = cert_size (quorum pool) n
size_of Release slip pool n = 12 + 4 * 2 + cert_size (quorum pool) n + n

-- only a change can be without a slip
abbrev pub names_slip : {P : Type 0} → Content P → Bool
names_slip (change None a b) = false
names_slip (change (Some s) a b) = true
names_slip (lock c) = true
names_slip (select c) = true
names_slip (commit s a) = true
names_slip (decide c) = true
names_slip (release l inner b) = true

-- every lawful message has just this length
abbrev pub SizesHold : Type 0
SizesHold = (pool : Pool) (n : ℕ) (s : Sent (List ℕ)) → Lawful pool n s → length (encoded s) ≡ size_of (kind_in s.content) (names_slip s.content) pool n

-- four members with seals of 8 bytes, ten members with seals of 80
pub record SizesReckoned : Type 0 where
  pub change_112 : size_of Change true Four 8 ≡ 112
  pub change_none_36 : size_of Change false Four 8 ≡ 36
  pub commit_100 : size_of Commit true Four 8 ≡ 100
  pub lock_136 : size_of Lock true Four 8 ≡ 136
  pub release_164 : size_of Release true Four 8 ≡ 164
  pub lock_760 : size_of Lock true Ten 80 ≡ 760
  pub release_860 : size_of Release true Ten 80 ≡ 860
