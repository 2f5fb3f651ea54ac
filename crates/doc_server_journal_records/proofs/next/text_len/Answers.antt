use Rattle.std.proofs.Common.{◌∙◌, refl, arith}
use Rattle.doc_server_journal_records.specs.Records.{text_limit}
use Rattle.doc_server_journal_records.proofs.HeadLemmas.{digits_part, time_part, too_long, is_head, one_count}
use Rattle.doc_server_journal_records.proofs.next.text_len.Goals as goal

pub returns-in_default-clause-none : goal.returns-in_default-clause-none
returns-in_default-clause-none c = λ none count time fits digits is.
    c.in_default.ensures.none refl count (too_long count fits)
    (c.split_at.ensures.front ∙ digits_part c.args.head.now count time is)

pub returns-then-len-gt-TEXT_LIMIT-clause-none : goal.returns-then-len-gt-TEXT_LIMIT-clause-none
unfolding text_limit
returns-then-len-gt-TEXT_LIMIT-clause-none c = λ none count time fits digits is.
    omega (
      arith,
      c.if-len-gt-TEXT_LIMIT.true,
      fits,
      one_count c.args.head.now count time is c.in-Some.len _ c.in-Some.ensures.bound fits
          c.split_at.ensures.front c.in-Some.ensures.found,
    )

pub returns-then-not-is_time-clause-none : goal.returns-then-not-is_time-clause-none
returns-then-not-is_time-clause-none c = λ none count time fits digits is.
    c.if-not-is_time.ensures.no refl
    (time, digits, c.split_at.ensures.back ∙ time_part c.args.head.now count time is)

pub returns-clause-found : goal.returns-clause-found
unfolding text_limit
returns-clause-found c = (
  omega (arith, c.if-len-gt-TEXT_LIMIT.false),
  is_head _ _ _ _ c.split_at.ensures.front c.split_at.ensures.back c.in-Some.ensures.found (c.is_time.ensures.yes c.if-not-is_time.false),
)
