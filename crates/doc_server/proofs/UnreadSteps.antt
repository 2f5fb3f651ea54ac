-- What the command `demo` leaves where its input can't be read.
use Rattle.std.proofs.Common.{◌≡◌, refl, inl, ℕ, List, codes}
use Rattle.std.specs.Prelude.{Option, Some, None, Err}
use Rattle.std.specs.Io.KnownBytes.{Keeps}
use Rattle.doc_hub.specs.Connections.{backlog_limit}
use Rattle.doc_hub.specs.Replies.{Renders}
use Rattle.doc_server.specs.Demo.{StopsDemo}
use Rattle.doc_server_streams.specs.Faults.{IsUnread, failed_writes_after}
use Rattle.doc_server_streams.specs.declared.fault.Fault.{Fault}
use Rattle.doc_server_streams.specs.declared.fault.Fault.TheVariants as faults

keeps : (known : Option (List ℕ)) → Keeps known known
keeps None = tt
keeps (Some bytes) = refl

-- nothing is written
pub unread_stops : (render : Renders) (input known : Option (List ℕ)) (fault : Fault) → IsUnread (codes "-") 4194304 input fault
    → StopsDemo render input known known fault
unfolding backlog_limit
unread_stops render input known faults.Usage unread = absurd unread
unread_stops render input known faults.Config unread = absurd unread
unread_stops render input known faults.BadTable unread = absurd unread
unread_stops render input known faults.UnknownToken unread = absurd unread
unread_stops render input known faults.Socket unread = absurd unread
unread_stops render input known (faults.BadScriptLine line) unread = absurd unread
unread_stops render input known (faults.CannotRead name) unread = (unread, keeps known)
unread_stops render input known faults.CannotWrite unread = absurd unread
unread_stops render input known faults.Refused unread = (unread, keeps known)
unread_stops render input known faults.Memory unread = inl (keeps known)

-- and no write fails
pub unread_writes : (failed limit : ℕ) (name : List ℕ) (input : Option (List ℕ)) (fault : Fault) → IsUnread name limit input fault
    → failed ≡ failed_writes_after {X = Unit {0}} failed (Err fault)
unread_writes failed limit name input faults.Usage unread = absurd unread
unread_writes failed limit name input faults.Config unread = absurd unread
unread_writes failed limit name input faults.BadTable unread = absurd unread
unread_writes failed limit name input faults.UnknownToken unread = absurd unread
unread_writes failed limit name input faults.Socket unread = absurd unread
unread_writes failed limit name input (faults.BadScriptLine line) unread = absurd unread
unread_writes failed limit name input (faults.CannotRead called) unread = refl
unread_writes failed limit name input faults.CannotWrite unread = absurd unread
unread_writes failed limit name input faults.Refused unread = refl
unread_writes failed limit name input faults.Memory unread = refl
