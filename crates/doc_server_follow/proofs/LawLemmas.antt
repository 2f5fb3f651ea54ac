-- Laws of journals that are followed.
use Rattle.std.proofs.Common.{◌≡◌, ℕ, List, [], ◌∷◌, ◌++◌, length, refl, sym, ap, subst, ◌∙◌, arith, length-append, append_assoc}
use Rattle.std.proofs.lemmas.List.{append-nil}
use Rattle.doc_server_journal_records.specs.Records.{closed_gate, Entry, AreEntries, open_gate, header, seed, body, foot_of, digest_behind, record_bytes, chain, last_digest, front_of}
use Rattle.doc_server_journal_records.specs.Readings.{AreRecords, HasNoOpenRecord}
use Rattle.doc_server_journal_records.proofs.ChainLemmas.{end_not_open}
use Rattle.doc_server_journal_records.proofs.LawLemmas.{one_reading}
use Rattle.doc_server_journal_records.proofs.RecordLemmas.{parts}
use Rattle.doc_server_follow.specs.Follows.{AreTaken, IsAt, IsMarked, mark_of}
use Rattle.doc_server_follow.specs.Laws.{GrownNeverGoesBack, RestsAtTheEnd, StaysInOrder}
use Rattle.doc_server_follow.specs.declared.followed.Followed.{Followed}
use Rattle.doc_server_follow.proofs.MarkLemmas.{foot_mark, header_mark}

-- ---- records behind records

both_entries : (es fs : List Entry) → AreEntries es → AreEntries fs → AreEntries (es ++ fs)
both_entries [] fs all others = others
both_entries (e ∷ es) fs all others = (all.0, both_entries es fs all.1 others)

both_chains : (before : List ℕ) (es fs : List Entry) → chain before (es ++ fs) ≡ chain before es ++ chain (last_digest before es) fs
both_chains before [] fs = refl
both_chains before (e ∷ es) fs =
    ap (λ (l : List ℕ). open_gate ∷ l) (ap (λ l. record_bytes before e ++ l) (both_chains (digest_behind before e) es fs)
    ∙ sym (append_assoc (record_bytes before e) (chain (digest_behind before e) es)
    (chain (last_digest (digest_behind before e) es) fs)))

both_digests : (before : List ℕ) (es fs : List Entry) → last_digest before (es ++ fs) ≡ last_digest (last_digest before es) fs
both_digests before [] fs = refl
both_digests before (e ∷ es) fs = both_digests (digest_behind before e) es fs

both_fronts : (identity : List ℕ) (es fs : List Entry)
    → front_of identity (es ++ fs) ≡ front_of identity es ++ chain (last_digest (seed identity) es) fs
both_fronts identity es fs =
    ap (λ l. header identity ++ l) (both_chains (seed identity) es fs)
    ∙ sym (append_assoc (header identity) (chain (seed identity) es) (chain (last_digest (seed identity) es) fs))

-- where a journal was taken as far as its mark, what stands behind its records is what stands behind the mark
same_rest : (file identity : List ℕ) (entries : List Entry) (behind rest : List ℕ) (followed : Followed) → IsAt identity entries followed
    → AreRecords file identity entries behind → IsMarked file followed rest → behind ≡ rest
same_rest file identity entries behind rest followed at reads stands =
    (parts (front_of identity entries) (stands.before ++ mark_of followed) behind rest (sym at.end ∙ sym stands.end)
    (sym reads.split ∙ stands.split ∙ sym (append_assoc stands.before (mark_of followed) rest))).1

-- where a journal was taken as far as these entries, it is behind more of them taken as far as all
pub at_both : (identity : List ℕ) (entries more : List Entry) (old new : Followed) (texts : List (List ℕ)) → IsAt identity entries old
    → AreTaken old new more texts → IsAt identity (entries ++ more) new
at_both identity entries more old new texts at taken =
    let front = front_of identity entries in
    let next : chain old.digest more ≡ chain (last_digest (seed identity) entries) more = ap (λ d. chain d more) at.digest in
    let fronts = both_fronts identity entries more in record {
      is_identity = at.is_identity;
      are_entries = both_entries entries more at.are_entries taken.are_entries;
      header = ap (λ (f : Followed). f.header) taken.new_is ∙ at.header;
      end = omega (
        arith,
        ap (λ (f : Followed). f.end) taken.new_is,
        at.end,
        ap (λ (l : List ℕ). length l) fronts,
        length-append front (chain (last_digest (seed identity) entries) more),
        ap (λ (l : List ℕ). length l) next,
      );
      digest = ap (λ (f : Followed). f.digest) taken.new_is ∙ ap (λ d. last_digest d more) at.digest
          ∙ sym (both_digests (seed identity) entries more);
      records = omega (arith, ap (λ (f : Followed). f.records) taken.new_is, at.records, length-append entries more);
    }

pub stays_in_order : StaysInOrder
stays_in_order file identity entries behind old new texts at reads (more, rest, taken, stands) =
    let front = front_of identity entries in
    let both = same_rest file identity entries behind (chain old.digest more ++ rest) old at reads stands in
    let next : chain old.digest more ≡ chain (last_digest (seed identity) entries) more = ap (λ d. chain d more) at.digest in (
      more,
      rest,
      taken.texts_are,
      record {
        is_identity = reads.is_identity;
        are_entries = both_entries entries more reads.are_entries taken.are_entries;
        split = reads.split ∙ ap (λ l. front ++ l) (both ∙ ap (λ l. l ++ rest) next)
            ∙ sym (append_assoc front (chain (last_digest (seed identity) entries) more) rest)
            ∙ ap (λ l. l ++ rest) (sym (both_fronts identity entries more));
      },
      at_both identity entries more old new texts at taken,
    )

-- ---- the mark at the end of records

record_foot : (before : List ℕ) (entry : Entry) → record_bytes before entry ≡ body entry ++ foot_of (digest_behind before entry)
unfolding record_bytes
record_foot before entry = refl

-- records end with the foot of the last
foot_at_end : (before : List ℕ) (entry : Entry) (entries : List Entry)
    → (front : List ℕ) × (chain before (entry ∷ entries) ≡ front ++ foot_of (last_digest before (entry ∷ entries)))
foot_at_end before entry [] = (
  open_gate ∷ body entry,
  ap (λ (l : List ℕ). open_gate ∷ l) (append-nil (record_bytes before entry) ∙ record_foot before entry),
)
foot_at_end before entry (next ∷ entries) =
    let further = foot_at_end (digest_behind before entry) next entries in (
      open_gate ∷ (record_bytes before entry ++ further.0),
      ap (λ (l : List ℕ). open_gate ∷ l) (ap (λ l. record_bytes before entry ++ l) further.1
          ∙ sym (append_assoc (record_bytes before entry) further.0 (foot_of (last_digest (digest_behind before entry) (next ∷ entries))))),
    )

-- what was taken ends with the mark
mark_at_end : (identity : List ℕ) (entries : List Entry) (followed : Followed) → IsAt identity entries followed
    → (before : List ℕ) × (front_of identity entries ≡ before ++ mark_of followed)
mark_at_end identity [] followed at =
    ([], append-nil (header identity) ∙ sym at.header ∙ sym (header_mark followed at.records))
mark_at_end identity (entry ∷ entries) followed at =
    let end = foot_at_end (seed identity) entry entries in
    let some : followed.records ≡ 0 → ⊥ = λ none. omega (arith, none, at.records) in (
      header identity ++ end.0,
      ap (λ l. header identity ++ l) (end.1 ∙ ap (λ l. end.0 ++ l) (ap (λ d. foot_of d) (sym at.digest) ∙ sym (foot_mark followed some)))
          ∙ sym (append_assoc (header identity) end.0 (mark_of followed)),
    )

stands_at_end : (file identity : List ℕ) (entries : List Entry) (behind : List ℕ) (followed : Followed) → IsAt identity entries followed
    → file ≡ front_of identity entries ++ behind → IsMarked file followed behind
stands_at_end file identity entries behind followed at split =
    let end = mark_at_end identity entries followed at in
    record {
      before = end.0;
      split = split ∙ ap (λ l. l ++ behind) end.1 ∙ append_assoc end.0 (mark_of followed) behind;
      end = ap (λ (l : List ℕ). length l) (sym end.1) ∙ sym at.end;
    }

pub grown_never_goes_back : GrownNeverGoesBack
grown_never_goes_back file identity entries behind old new at reads has looks =
    looks.0 behind (stands_at_end file identity entries behind old at reads.split) has

-- ---- all that was taken

pub rests_at_the_end : RestsAtTheEnd
rests_at_the_end file identity entries behind old new texts at reads ((rest, stands, waits), same) whole =
    let none : HasNoOpenRecord (last_digest (seed identity) entries) behind =
    subst (λ d. HasNoOpenRecord d behind) at.digest
    (subst (λ l. HasNoOpenRecord old.digest l) (sym (same_rest file identity entries behind rest old at reads stands)) waits.not_open) in
    let end = end_not_open (last_digest (seed whole.identity) whole.entries) (closed_gate ∷ whole.tail) (whole.tail, refl, whole.is_tail) in
    let both = one_reading file whole.identity identity whole.entries entries (closed_gate ∷ whole.tail) behind whole.records reads end none in
    whole.texts_are ∙ both.texts
