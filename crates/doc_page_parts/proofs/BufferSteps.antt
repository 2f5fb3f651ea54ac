-- What is written at the end of a buffer leaves its front.
use Rattle.std.proofs.Common.{◌≡◌, ℕ, ◌≤◌, List, ◌++◌, length, take, min, ap, sym, ◌∙◌, arith, append_assoc}
use Rattle.std.specs.Prelude.{Result, Ok, Err}
use Rattle.std.specs.Prelude.{IsErrAnd, OnOk, OnErr}
use Rattle.std.specs.Io.{StartsWith}
use Rattle.std.proofs.lemmas.List.{length-append, length-take, take-take, take-append-le}
use Rattle.std.proofs.Math.Seq.{take-append_seam, take-length}

-- nothing was written
pub front_same : (old new : List ℕ) → new ≡ old → StartsWith new old
front_same old new same = ap (take (length old)) same ∙ take-length old

-- something was written, and then whatever left that in front
pub front_more : (old more middle new : List ℕ) → middle ≡ old ++ more → StartsWith new middle → StartsWith new old
front_more old more middle new written stays =
    let longer : length old ≤ length middle = omega (arith, ap length written, length-append old more) in
    sym (take-take (length old) (length middle) new longer)
    ∙ ap (take (length old)) stays ∙ ap (take (length old)) written ∙ take-append_seam old more

-- more was written behind what left it in front
pub front_grows : (old middle more new : List ℕ) → StartsWith middle old → new ≡ middle ++ more → StartsWith new old
front_grows old middle more new stays written =
    let within : min (length old) (length middle) ≡ length old = sym (length-take (length old) middle) ∙ ap length stays in
    ap (take (length old)) written ∙ take-append-le (length old) middle more (omega arith) ∙ stays

-- a refusal promises what holds of an error
pub on_refusal : {T E : Type 0} (P : Type 0) {Q : Type 0} (R : E → Type 0) (r : Result T E) → IsErrAnd r R → Q
    → record { ok : OnOk r P; err : OnErr r Q }
on_refusal P R (Ok x) impossible held = elim impossible [ ]
on_refusal P R (Err e) is held = record { ok = tt; err = held }

-- two parts were written, one behind the other
pub both_written : (old a b middle new : List ℕ) → middle ≡ old ++ a → new ≡ middle ++ b → new ≡ old ++ (a ++ b)
both_written old a b middle new first second = second ∙ ap (λ bytes. bytes ++ b) first ∙ append_assoc old a b

-- five parts were written, each behind the one before
pub five_written : (old a b c d e one two three four new : List ℕ) → one ≡ old ++ a → two ≡ one ++ b → three ≡ two ++ c
    → four ≡ three ++ d → new ≡ four ++ e → new ≡ old ++ (a ++ b ++ c ++ d ++ e)
five_written old a b c d e one two three four new first second third fourth fifth =
    both_written old _ e four new (both_written old _ d three four (both_written old _ c two three
    (both_written old a b one two first second) third) fourth) fifth
