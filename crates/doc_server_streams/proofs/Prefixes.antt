-- Outputs that grew by a prefix of what is wanted.
use Rattle.std.proofs.Common.{◌≡◌, ℕ, ◌+◌, List, ◌++◌, length, take, drop, sym, ap, subst, ◌∙◌, append-nil}
use Rattle.std.proofs.Math.Seq.{take-append-add}
use Rattle.std.specs.Prelude.{Option}
use Rattle.std.proofs.lemmas.List.{append_assoc, take-append-drop}
use Rattle.std.specs.Io.KnownBytes.{Appends}
use Rattle.std.proofs.KnownBytes.{Appends-trans}
use Rattle.doc_server_streams.specs.Streams.{AppendsPrefix}
use Rattle.doc_server_streams.specs.OutputSteps.{StopsAt}
use Rattle.doc_server_streams.specs.declared.fault.Fault.{Fault}
use Rattle.doc_server_streams.specs.declared.fault.Fault.TheVariants as faults

-- what stands at the front is a prefix
pub front_is_prefix : (old new : Option (List ℕ)) (whole front back : List ℕ) → whole ≡ front ++ back → Appends old new front
    → AppendsPrefix old new whole
front_is_prefix old new whole front back is grows = (
  length front + 0,
  subst (Appends old new) (sym (ap (take (length front + 0)) is ∙ take-append-add front back 0 ∙ append-nil front)) grows,
)

-- a prefix of what comes next, behind what is there already
pub prefix_behind : (old mid new : Option (List ℕ)) (whole sent next more : List ℕ) → whole ≡ sent ++ (next ++ more) → Appends old mid sent
    → AppendsPrefix mid new next → AppendsPrefix old new whole
prefix_behind old mid new whole sent next more is before (n, grows) =
    let front : List ℕ = sent ++ take n next in
    let split : whole ≡ front ++ (drop n next ++ more) = is ∙ ap (λ l. sent ++ (l ++ more)) (sym (take-append-drop n next))
    ∙ ap (λ l. sent ++ l) (append_assoc (take n next) (drop n next) more)
    ∙ sym (append_assoc sent (take n next) (drop n next ++ more)) in
    front_is_prefix old new whole front (drop n next ++ more) split (Appends-trans old mid new sent (take n next) before grows)

pub stops_behind : (old mid new : Option (List ℕ)) (whole sent next more : List ℕ) (fault : Fault) → whole ≡ sent ++ (next ++ more)
    → Appends old mid sent → StopsAt mid new next fault → StopsAt old new whole fault
stops_behind old mid new whole sent next more faults.CannotWrite is before stops = prefix_behind old mid new whole sent next more is before
    stops
stops_behind old mid new whole sent next more faults.Memory is before stops = prefix_behind old mid new whole sent next more is before stops
stops_behind old mid new whole sent next more faults.Usage is before stops = absurd stops
stops_behind old mid new whole sent next more faults.Config is before stops = absurd stops
stops_behind old mid new whole sent next more faults.BadTable is before stops = absurd stops
stops_behind old mid new whole sent next more faults.UnknownToken is before stops = absurd stops
stops_behind old mid new whole sent next more faults.Socket is before stops = absurd stops
stops_behind old mid new whole sent next more (faults.BadScriptLine line) is before stops = absurd stops
stops_behind old mid new whole sent next more faults.Refused is before stops = absurd stops
stops_behind old mid new whole sent next more (faults.CannotRead name) is before stops = absurd stops
