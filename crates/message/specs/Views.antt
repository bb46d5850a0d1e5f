-- What the values of the program stand for.
use Rattle.std.specs.Prelude.{map, Ok, Err, Result}
use Rattle.message.specs.Contents.{Cert, Locked, Content, change, lock, select, commit, decide, release, Sent}
use Rattle.message.specs.Layout.{Piece, Entry, Place, left}
use Rattle.message.specs.Shapes.{signed_of}
use Rattle.message.specs.declared.readers.Part.{Part}
use Rattle.message.specs.declared.readers.Body.{Body}
use Rattle.message.specs.declared.readers.Reader.{Reader}
use Rattle.message.specs.declared.parsing.Inner.{Inner}
use Rattle.message.specs.declared.shapes.Certificate.{Certificate}
use Rattle.message.specs.declared.shapes.LockMessage.{LockMessage}
use Rattle.message.specs.declared.shapes.Holds.{Holds}
use Rattle.message.specs.declared.shapes.Holds.TheVariants.{Change, Lock, Select, Commit, Decide, Release}
use Rattle.message.specs.declared.shapes.Message.{Message}
use Rattle.base.specs.declared.refusals.Refusal.{Refusal}

abbrev pub piece_of : Part → Piece
piece_of p = record { from = p.offset; bytes = p.bytes.now }

abbrev pub entry_of : Body → Entry
entry_of b = record { sort = b.sort; signer = b.member.0; piece = piece_of b.part }

abbrev pub place_of : Reader → Place
place_of r = record { text = r.message.now; next = r.index; from = r.at }

-- the votes are the bodies that a reader has before it
abbrev pub cert_view : Certificate → Cert Piece
cert_view c = record { slip = c.slip; own = piece_of c.own; votes = map signed_of (left (place_of c.votes)) }

abbrev pub lock_view : LockMessage → Locked Piece
lock_view l = record { head = l.head; cert = cert_view l.certificate }

abbrev pub inner_view : Inner → Piece × Locked Piece
inner_view x = (piece_of x.part, lock_view x.lock)

abbrev pub holds_view : Holds → Content Piece
holds_view (Change page rchg cand) = change page (piece_of rchg) (piece_of cand)
holds_view (Lock c) = lock (cert_view c)
holds_view (Select c) = select (cert_view c)
holds_view (Commit slip seal) = commit slip (piece_of seal)
holds_view (Decide c) = decide (cert_view c)
holds_view (Release part inner own) = release (piece_of part) (lock_view inner) (piece_of own)

abbrev pub message_view : Message → Sent Piece
message_view m = record { head = m.head; content = holds_view m.holds }

-- the answer to whoever gave the bytes
abbrev pub shown : Result Message Refusal → Result (Sent Piece) Refusal
shown (Ok m) = Ok (message_view m)
shown (Err e) = Err e
