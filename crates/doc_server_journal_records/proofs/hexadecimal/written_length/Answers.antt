use Rattle.std.proofs.Common.{◌≡◌, ◌∙◌, sym, ap}
use Rattle.std.specs.Int.{w32, from_be_bytes}
use Rattle.std.proofs.lemmas.Slice.Eq.{slice_eq-Decides}
use Rattle.std.proofs.lemmas.Bool.Decides.{Decides-eqb, not_from_Decides}
use Rattle.std.proofs.lemmas.Nat.{from_be_bytes-to_be_bytes_4}
use Rattle.doc_server_journal_records.specs.Records.{length_digits}
use Rattle.doc_server_journal_records.proofs.Digits.{decoded}
use Rattle.doc_server_journal_records.proofs.hexadecimal.written_length.Goals as goal

pub returns-in_default-clause-none : goal.returns-in_default-clause-none
returns-in_default-clause-none c = λ none count fits is.
    let found = rw (decoded c.args.digits.now count is) at c.decode_to_slice.ensures.value in c.in_default.not-Ok tt found.0

pub returns-clause-none : goal.returns-clause-none
returns-clause-none c = λ none count fits is.
    let found = rw (decoded c.args.digits.now count is) at c.decode_to_slice.ensures.value in
    let len : c.from_be_bytes-len.result ≡ count =
    c.from_be_bytes-len.ensures ∙ ap (λ b. from_be_bytes w32 b) found.1 ∙ from_be_bytes-to_be_bytes_4 count fits in
    not_from_Decides _ (slice_eq-Decides Decides-eqb _ _ _ c.eq.ensures) c.if-eq.false
    (is ∙ ap (λ n. length_digits n) (sym len) ∙ sym c.length_digits.ensures ∙ sym c.as_slice.ensures)
