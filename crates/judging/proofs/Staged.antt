-- Whether a view takes a message depends on its kind alone, and on whether its round is ahead.
use Rattle.std.proofs.Common.{refl}
use Rattle.message.specs.Contents.{change, lock, select, commit, decide, release}
use Rattle.judging.specs.Table.{ByKind}

pub takes_by_kind : ByKind
takes_by_kind v h (change page a b) = refl
takes_by_kind v h (lock c) = refl
takes_by_kind v h (select c) = refl
takes_by_kind v h (commit s a) = refl
takes_by_kind v h (decide c) = refl
takes_by_kind v h (release l inner b) = refl
