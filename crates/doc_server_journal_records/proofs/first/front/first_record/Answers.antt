use Rattle.std.proofs.Common.{◌∙◌, sym, arith}
use Rattle.std.proofs.lemmas.Slice.Eq.{slice_eq-Decides}
use Rattle.std.proofs.lemmas.Bool.Decides.{Decides-eqb, not_from_Decides}
use Rattle.doc_server_journal_records.specs.FirstRecords.{text_limit}
use Rattle.doc_server_journal_records.proofs.FirstFrontLemmas.{is_front, long_enough, len_is, room, right_digest}
use Rattle.doc_server_journal_records.proofs.first.front.first_record.Goals as goal

pub returns-then-bytes-lt36-clause-none : goal.returns-then-bytes-lt36-clause-none
returns-then-bytes-lt36-clause-none c = λ none t r is. omega (arith, c.if-bytes-lt36.true, long_enough _ _ t r is)

pub returns-then-len-gt-TEXT_LIMIT-clause-none : goal.returns-then-len-gt-TEXT_LIMIT-clause-none
unfolding text_limit
returns-then-len-gt-TEXT_LIMIT-clause-none c = λ none t r is.
    let same = len_is _ _ t r is _ _ c.split_at.ensures.front c.split_at.ensures.back _ c.written_len-len.ensures.len in
    omega (arith, c.if-len-gt-TEXT_LIMIT.true, same, is.within)

pub returns-then-behind-len-clause-none : goal.returns-then-behind-len-clause-none
returns-then-behind-len-clause-none c = λ none t r is.
    let same = len_is _ _ t r is _ _ c.split_at.ensures.front c.split_at.ensures.back _ c.written_len-len.ensures.len in
    omega (arith, c.if-behind-len.true, same, room _ _ t r is _ _ c.split_at.ensures.front c.split_at.ensures.back)

pub digest_behind-digest-requires : goal.digest_behind-digest-requires
unfolding text_limit
digest_behind-digest-requires c = omega (arith, c.split_at-2.ensures.front_len, c.if-len-gt-TEXT_LIMIT.false)

pub returns-then-eq-clause-found : goal.returns-then-eq-clause-found
unfolding text_limit
returns-then-eq-clause-found c =
    let same = (slice_eq-Decides Decides-eqb _ _ _ c.eq.ensures).0 c.if-eq.true ∙ c.as_slice.ensures in (
      is_front c.args.before.now c.args.bytes.now _ _ _ _ _ _ _ _ c.split_at.ensures.front c.split_at.ensures.back
          c.written_len-len.ensures.back
          (omega (arith, c.if-len-gt-TEXT_LIMIT.false)) (omega (arith, c.if-behind-len.false)) c.split_at-2.ensures.front
          c.split_at-2.ensures.back
          c.split_at-3.ensures.front c.split_at-3.ensures.back same c.digest_behind-digest.ensures,
      c.digest_behind-digest.ensures,
    )

pub returns-clause-none : goal.returns-clause-none
returns-clause-none c = λ none t r is.
    let same = right_digest _ _ t r is _ _ c.split_at.ensures.front c.split_at.ensures.back _ _ _ _ _ c.written_len-len.ensures.len
    c.split_at-2.ensures.front c.split_at-2.ensures.back c.split_at-3.ensures.front c.digest_behind-digest.ensures in
    not_from_Decides _ (slice_eq-Decides Decides-eqb _ _ _ c.eq.ensures) c.if-eq.false (same ∙ sym c.as_slice.ensures)
