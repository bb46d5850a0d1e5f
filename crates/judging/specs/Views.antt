-- What a message of the program says, seals as their bytes.
use Rattle.std.specs.Prelude.{ℕ, List, map}
use Rattle.message.specs.Contents.{Signed, Cert, Locked, Content, Sent, on_signed, on_cert, on_locked, on_content, on_sent}
use Rattle.message.specs.Layout.{Piece, Entry, Place, left}
use Rattle.message.specs.Shapes.{signed_of}
use Rattle.message.specs.Views.{cert_view, lock_view, holds_view, message_view}
use Rattle.message.specs.declared.shapes.Certificate.{Certificate}
use Rattle.message.specs.declared.shapes.Holds.{Holds}
use Rattle.message.specs.declared.shapes.LockMessage.{LockMessage}
use Rattle.message.specs.declared.shapes.Message.{Message}

abbrev pub sent_of : Message → Sent (List ℕ)
sent_of m = on_sent (λ (p : Piece). p.bytes) (message_view m)

abbrev pub content_in : Holds → Content (List ℕ)
content_in h = on_content (λ (p : Piece). p.bytes) (holds_view h)

abbrev pub cert_of : Certificate → Cert (List ℕ)
cert_of c = on_cert (λ (p : Piece). p.bytes) (cert_view c)

abbrev pub locked_of : LockMessage → Locked (List ℕ)
locked_of l = on_locked (λ (p : Piece). p.bytes) (lock_view l)

-- bodies as a quorum's seals
abbrev pub votes_in : List Entry → List (Signed (List ℕ))
votes_in es = map (on_signed (λ (p : Piece). p.bytes)) (map signed_of es)

-- those that a reader has before it
abbrev pub votes_at : Place → List (Signed (List ℕ))
votes_at p = votes_in (left p)
