-- Reading an input piece by piece: what its bytes so far say of it, and what a fault says.
use Rattle.std.proofs.Common.{◌≡◌, ◌<◌, ◌≤◌, ℕ, zero, suc, ◌+◌, ◌⊎◌, inl, inr, List, ◌++◌, length}
use Rattle.std.proofs.Common.{arith, ap, refl, sym, subst, length-append}
use Rattle.std.specs.Prelude.{⊤, Option, None, Some, IfSome, Result, Ok, Err, IsErrAnd}
use Rattle.std.specs.Io.KnownBytes.{Consumes, IsAtEnd}
use Rattle.std.proofs.KnownBytes.{Consumes-trans, Consumes-whole}
use Rattle.doc_server_streams.specs.Streams.{one_more}
use Rattle.doc_server_streams.specs.Faults.{IsTooLong, IsUnread, ReadsFailed}
use Rattle.doc_server_streams.specs.InputSteps.{IsNamed, IsUnadded}
use Rattle.doc_server_streams.specs.declared.fault.Fault.{Fault}
use Rattle.doc_server_streams.specs.declared.fault.Fault.TheVariants as faults

-- ---- how many bytes an input had

had : (a b : Option (List ℕ)) (bs : List ℕ) (n : ℕ) → n ≤ length bs → Consumes a b bs → IfSome a (λ left. n ≤ length left)
had None b bs n few read = tt
had (Some x) None bs n few read = absurd read
had (Some x) (Some y) bs n few read =
    subst (λ l. n ≤ length l) (sym read) (subst (λ k. n ≤ k) (sym (length-append bs y)) (omega (arith, few)))

had_more : (a b : Option (List ℕ)) (bs : List ℕ) (n : ℕ) → n < length bs → Consumes a b bs → IfSome a (λ left. n < length left)
had_more None b bs n few read = tt
had_more (Some x) None bs n few read = absurd read
had_more (Some x) (Some y) bs n few read =
    subst (λ l. n < length l) (sym read) (subst (λ k. n < k) (sym (length-append bs y)) (omega (arith, few)))

-- as many bytes as there were reads
pub had_many : (a b : Option (List ℕ)) (bs : List ℕ) (n limit count len : ℕ) → n ≤ count → count ≤ len → len ≡ length bs → len ≤ limit
    → Consumes a b bs → (n ≤ limit) × IfSome a (λ left. n ≤ length left)
had_many a b bs n limit count len many some is within read =
    (omega (arith, many, some, within), had a b bs n (omega (arith, many, some, is)) read)

-- what was read, with a piece more
pub read_more : (a b c : Option (List ℕ)) (bs piece new : List ℕ) → Consumes a b bs → Consumes b c piece → new ≡ bs ++ piece
    → Consumes a c new
read_more a b c bs piece new first second is = subst (Consumes a c) (sym is) (Consumes-trans a b c bs piece first second)

-- one byte more at least, where a piece isn't empty
pub grown : (old piece new : List ℕ) (counter before after size : ℕ) → new ≡ old ++ piece → counter ≤ before → before ≡ length old
    → after ≡ length new → size ≡ length piece → ¬ (size ≡ 0) → counter + 1 ≤ after
grown old piece new counter before after size is some was are long none =
    let more : length new ≡ length old + length piece =
    subst (λ l. length l ≡ length old + length piece) (sym is) (length-append old piece) in
    at_least size none (omega (arith, some, was, are, long, more))
  where
    at_least : (n : ℕ) → ¬ (n ≡ 0) → counter + n ≤ after → counter + 1 ≤ after
    at_least zero not le = absurd (not refl)
    at_least (suc n) not le = omega (arith, le)

-- all that an input had, at its end
pub was_all : (a b : Option (List ℕ)) (bs : List ℕ) → Consumes a b bs → IsAtEnd b → IfSome a (λ left. bs ≡ left)
was_all a b bs read end = Consumes-whole a b bs (λ left. bs ≡ left) read end refl

-- ---- faults that name the input

pub named_unread : (name : List ℕ) (limit : ℕ) (input : Option (List ℕ)) (fault : Fault) → IsNamed name fault
    → IsUnread name limit input fault
named_unread name limit input (faults.CannotRead called) is = is
named_unread name limit input faults.Memory is = tt
named_unread name limit input faults.Refused is = absurd is
named_unread name limit input faults.CannotWrite is = absurd is
named_unread name limit input faults.Usage is = absurd is
named_unread name limit input faults.Config is = absurd is
named_unread name limit input faults.BadTable is = absurd is
named_unread name limit input faults.UnknownToken is = absurd is
named_unread name limit input faults.Socket is = absurd is
named_unread name limit input (faults.BadScriptLine line) is = absurd is

-- the reads behind such a fault: one failed, or none did and there is a reason
pub named_reads : {Reason : Type 0} (before after : ℕ) (name : List ℕ) (fault : Fault) → IsNamed name fault
    → (after ≡ one_more before) ⊎ ((after ≡ before) × Reason) → ReadsFailed {X = ⊤} Reason before after (Err fault)
named_reads before after name (faults.CannotRead called) is reads = reads
named_reads before after name faults.Memory is (inl failed) = inl failed
named_reads before after name faults.Memory is (inr (none, reason)) = inr none
named_reads before after name faults.Refused is reads = absurd is
named_reads before after name faults.CannotWrite is reads = absurd is
named_reads before after name faults.Usage is reads = absurd is
named_reads before after name faults.Config is reads = absurd is
named_reads before after name faults.BadTable is reads = absurd is
named_reads before after name faults.UnknownToken is reads = absurd is
named_reads before after name faults.Socket is reads = absurd is
named_reads before after name (faults.BadScriptLine line) is reads = absurd is

-- ---- a piece that isn't added

pub unadded : (name : List ℕ) (limit : ℕ) (a b : Option (List ℕ)) (bs piece : List ℕ) (before after : ℕ) (fault : Fault)
    → IsUnadded limit bs piece fault → Consumes a b (bs ++ piece) → after ≡ before
    → IsUnread name limit a fault × ReadsFailed {X = ⊤} (IsTooLong limit a) before after (Err fault)
unadded name limit a b bs piece before after faults.Refused is read none =
    (had_more a b (bs ++ piece) limit (subst (λ n. limit < n) (sym (length-append bs piece)) is) read, none)
unadded name limit a b bs piece before after faults.Memory is read none = (tt, inr none)
unadded name limit a b bs piece before after (faults.CannotRead called) is read none = absurd is
unadded name limit a b bs piece before after faults.CannotWrite is read none = absurd is
unadded name limit a b bs piece before after faults.Usage is read none = absurd is
unadded name limit a b bs piece before after faults.Config is read none = absurd is
unadded name limit a b bs piece before after faults.BadTable is read none = absurd is
unadded name limit a b bs piece before after faults.UnknownToken is read none = absurd is
unadded name limit a b bs piece before after faults.Socket is read none = absurd is
unadded name limit a b bs piece before after (faults.BadScriptLine line) is read none = absurd is

-- a result that is this error
pub is_error : {X E : Type 0} (r : Result X E) (e : E) → IsErrAnd r (λ f. f ≡ e) → r ≡ Err e
is_error (Ok x) e is = absurd is
is_error (Err f) e is = ap Err is
