use Rattle.std.proofs.Common.{◌∙◌, sym, refl}
use Rattle.std.proofs.lemmas.Slice.Eq.{slice_eq-Decides}
use Rattle.std.proofs.lemmas.Bool.{both_ways}
use Rattle.std.proofs.lemmas.Bool.Decides.{Decides-eqb, not_from_Decides}
use Rattle.doc_server_journal_records.proofs.FrontLemmas.{is_front, none_so_short, no_head, too_short, not_plain, other_foot}
use Rattle.doc_server_journal_records.proofs.next.record_at.Goals as goal

pub returns-then-bytes-lt-HEAD_LEN : goal.returns-then-bytes-lt-HEAD_LEN
returns-then-bytes-lt-HEAD_LEN c = none_so_short c.args.before.now c.args.bytes.now c.if-bytes-lt-HEAD_LEN.true

pub returns-in_default : goal.returns-in_default
returns-in_default c =
    no_head c.args.before.now c.args.bytes.now _ c.if-bytes-lt-HEAD_LEN.false c.split_at.ensures.front (c.in_default.ensures.none refl)

pub returns-then-behind-len : goal.returns-then-behind-len
returns-then-behind-len c =
    let found = c.in-Some.ensures.found in
    too_short c.args.before.now c.args.bytes.now _ _ found.1.0 _ c.split_at.ensures.front c.split_at.ensures.back found.0 found.1.1
    found.1.2
    c.split_at.ensures.back_len c.if-behind-len.true

pub returns-then-not-is_plain : goal.returns-then-not-is_plain
returns-then-not-is_plain c =
    let found = c.in-Some.ensures.found in
    not_plain c.args.before.now c.args.bytes.now _ _ found.1.0 _ c.split_at.ensures.front c.split_at.ensures.back found.0 found.1.1
    found.1.2
    c.split_at.ensures.back_len _ c.if-behind-len.false c.split_at-2.ensures.front
    (λ is. both_ways _ (sym c.is_plain.ensures ∙ c.if-not-is_plain.true) is)

pub returns-then-eq : goal.returns-then-eq
returns-then-eq c =
    let found = c.in-Some.ensures.found in
    let same = (slice_eq-Decides Decides-eqb _ _ _ c.eq.ensures).0 c.if-eq.true ∙ c.as_slice.ensures ∙ c.foot_of.ensures in
    is_front c.args.before.now c.args.bytes.now _ _ _ _ _ _ _ found.1.0 _ c.split_at.ensures.front c.split_at.ensures.back found.0 found.1.1
    found.1.2
    c.if-behind-len.false c.split_at-2.ensures.front c.split_at-2.ensures.back c.split_at-3.ensures.front c.split_at-3.ensures.back
    (sym c.is_plain.ensures ∙ c.if-not-is_plain.false) c.digest_of-digest.ensures same

pub returns : goal.returns
returns c =
    let found = c.in-Some.ensures.found in
    other_foot c.args.before.now c.args.bytes.now _ _ found.1.0 _ c.split_at.ensures.front c.split_at.ensures.back found.0 found.1.1
    found.1.2
    c.split_at.ensures.back_len _ c.if-behind-len.false c.split_at-2.ensures.front _ _ _ c.split_at-2.ensures.back
    c.split_at-3.ensures.front
    c.digest_of-digest.ensures
    (λ same. not_from_Decides _ (slice_eq-Decides Decides-eqb _ _ _ c.eq.ensures) c.if-eq.false
    (same ∙ sym c.foot_of.ensures ∙ sym c.as_slice.ensures))
