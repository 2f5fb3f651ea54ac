use Rattle.std.proofs.Common.{take, drop, ◌∙◌, ap, sym}
use Rattle.std.specs.List.{list_all}
use Rattle.std.proofs.lemmas.Slice.Eq.{slice_eq-Decides}
use Rattle.std.proofs.lemmas.Bool.{both_ways}
use Rattle.std.proofs.lemmas.Bool.Decides.{Decides-eqb, not_from_Decides}
use Rattle.doc_server_journal_records.specs.Records.{is_digit}
use Rattle.doc_server_journal_records.proofs.HeaderLemmas.{is_header, name_part, identity_part, end_part}
use Rattle.doc_server_journal_records.proofs.header.is_header.Goals as goal

pub returns-then-not-named-clause-no : goal.returns-then-not-named-clause-no
returns-then-not-named-clause-no c = λ no identity identity_is is.
    not_from_Decides _ (slice_eq-Decides Decides-eqb _ _ _ c.eq-named.ensures) c.if-not-named.true
    (c.split_at.ensures.front ∙ name_part c.args.bytes.now identity identity_is is)

pub returns-then-not-are_digits-clause-no : goal.returns-then-not-are_digits-clause-no
returns-then-not-are_digits-clause-no c = λ no identity identity_is is.
    let same = c.split_at-2.ensures.front ∙ ap (λ l. take 32 l) c.split_at.ensures.back
    ∙ identity_part c.args.bytes.now identity identity_is is in
    both_ways _ (sym c.are_digits.ensures ∙ c.if-not-are_digits.true) (ap (λ l. list_all is_digit l) same ∙ identity_is.1)

pub returns-clause-yes : goal.returns-clause-yes
returns-clause-yes c = λ yes.
    let named = (slice_eq-Decides Decides-eqb _ _ _ c.eq-named.ensures).0 c.if-not-named.false in
    let ended = (slice_eq-Decides Decides-eqb _ _ _ c.eq.ensures).0 yes ∙ c.as_slice.ensures in (
      c.split_at-2.result.0.now,
      (c.split_at-2.ensures.front_len, sym c.are_digits.ensures ∙ c.if-not-are_digits.false),
      is_header c.args.bytes.now _ _ _ _ c.split_at.ensures.front c.split_at.ensures.back c.split_at-2.ensures.front
          c.split_at-2.ensures.back named ended,
    )

pub returns-clause-no : goal.returns-clause-no
returns-clause-no c = λ no identity identity_is is.
    not_from_Decides _ (slice_eq-Decides Decides-eqb _ _ _ c.eq.ensures) no
    (c.split_at-2.ensures.back ∙ ap (λ l. drop 32 l) c.split_at.ensures.back ∙ end_part c.args.bytes.now identity identity_is is
    ∙ sym c.as_slice.ensures)
