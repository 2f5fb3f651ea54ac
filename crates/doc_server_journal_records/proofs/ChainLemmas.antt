-- Records one behind the other.
use Rattle.std.proofs.Common.{◌≡◌, ℕ, ◌+◌, ◌≤◌, List, [], ◌∷◌, ◌++◌, length, drop, get_or, refl, sym, ap, subst, ◌∙◌, arith, length-append, append_assoc}
use Rattle.std.proofs.lemmas.List.{append-nil}
use Rattle.doc_server_journal_records.specs.Records.{front_of, header, seed, Entry, IsEntry, AreEntries, open_gate, closed_gate, digest_behind, record_bytes, chain, last_digest, texts_of}
use Rattle.doc_server_journal_records.specs.Readings.{IsRecord, HasNoOpenRecord, IsEnd, last_size}
use Rattle.doc_server_journal_records.proofs.RecordLemmas.{length_record, record_unique}

-- one record more
pub chain_push : (before : List ℕ) (entries : List Entry) (entry : Entry) (rest : List ℕ)
    → chain before (entries ++ entry ∷ []) ++ rest
    ≡ chain before entries ++ (open_gate ∷ (record_bytes (last_digest before entries) entry ++ rest))
chain_push before [] entry rest = ap (λ (l : List ℕ). open_gate ∷ (l ++ rest)) (append-nil (record_bytes before entry))
chain_push before (e ∷ entries) entry rest =
    let more = chain (digest_behind before e) (entries ++ entry ∷ []) in
    let last = last_digest (digest_behind before e) entries in
    let whole = append_assoc (record_bytes before e) more rest
    ∙ ap (λ l. record_bytes before e ++ l) (chain_push (digest_behind before e) entries entry rest)
    ∙ sym (append_assoc (record_bytes before e) (chain (digest_behind before e) entries) (open_gate ∷ (record_bytes last entry ++ rest))) in
    ap (λ (l : List ℕ). open_gate ∷ l) whole

pub last_push : (before : List ℕ) (entries : List Entry) (entry : Entry)
    → last_digest before (entries ++ entry ∷ []) ≡ digest_behind (last_digest before entries) entry
last_push before [] entry = refl
last_push before (e ∷ entries) entry = last_push (digest_behind before e) entries entry

pub entries_push : (entries : List Entry) (entry : Entry) → AreEntries entries → IsEntry entry → AreEntries (entries ++ entry ∷ [])
entries_push [] entry all is = (is, tt)
entries_push (e ∷ entries) entry all is = (all.0, entries_push entries entry all.1 is)

pub texts_push : (entries : List Entry) (entry : Entry) → texts_of (entries ++ entry ∷ []) ≡ texts_of entries ++ entry.text ∷ []
texts_push [] entry = refl
texts_push (e ∷ entries) entry = ap (λ (l : List (List ℕ)). e.text ∷ l) (texts_push entries entry)

pub last_size_push : (texts : List (List ℕ)) (text : List ℕ) → last_size (texts ++ text ∷ []) ≡ length text + 86
last_size_push [] text = refl
last_size_push (t ∷ []) text = refl
last_size_push (t ∷ u ∷ texts) text = last_size_push (u ∷ texts) text

-- the first record of a chain
head_record : (before : List ℕ) (e : Entry) (es : List Entry) (x : List ℕ) → IsEntry e
    → IsRecord before e ((record_bytes before e ++ chain (digest_behind before e) es) ++ x) (chain (digest_behind before e) es ++ x)
head_record before e es x is =
    record { is_entry = is; split = append_assoc (record_bytes before e) (chain (digest_behind before e) es) x }

tail_same : (b : ℕ) (x y : List ℕ) → b ∷ x ≡ b ∷ y → x ≡ y
tail_same b x y same = ap (λ (l : List ℕ). drop 1 l) same

-- what two chains have in common that bytes are
pub record SameChain (before : List ℕ) (es fs : List Entry) (x y : List ℕ) : Type 0 where
  pub texts : texts_of es ≡ texts_of fs
  pub digest : last_digest before es ≡ last_digest before fs
  pub rest : x ≡ y

-- bytes are one chain alone, where no open record stands behind it
pub chain_unique : (before : List ℕ) (es fs : List Entry) (x y : List ℕ) → AreEntries es → AreEntries fs
    → chain before es ++ x ≡ chain before fs ++ y
    → HasNoOpenRecord (last_digest before es) x → HasNoOpenRecord (last_digest before fs) y → SameChain before es fs x y
chain_unique before [] [] x y all others same no_x no_y = record { texts = refl; digest = refl; rest = same }
chain_unique before [] (f ∷ fs) x y all others same no_x no_y =
    absurd (no_x f (chain (digest_behind before f) fs ++ y)
    ((record_bytes before f ++ chain (digest_behind before f) fs) ++ y, same, head_record before f fs y others.0))
chain_unique before (e ∷ es) [] x y all others same no_x no_y =
    absurd (no_y e (chain (digest_behind before e) es ++ x)
    ((record_bytes before e ++ chain (digest_behind before e) es) ++ x, sym same, head_record before e es x all.0))
chain_unique before (e ∷ es) (f ∷ fs) x y all others same no_x no_y =
    let left = (record_bytes before e ++ chain (digest_behind before e) es) ++ x in
    let right = (record_bytes before f ++ chain (digest_behind before f) fs) ++ y in
    let rests : left ≡ right = tail_same open_gate left right same in
    let first = head_record before e es x all.0 in
    let second : IsRecord before f left (chain (digest_behind before f) fs ++ y) =
    record { is_entry = others.0; split = rests ∙ append_assoc (record_bytes before f) (chain (digest_behind before f) fs) y } in
    let both = record_unique before left e f _ _ first second in
    let back : digest_behind before f ≡ digest_behind before e = sym both.digest in
    let on = both.rest ∙ ap (λ d. chain d fs ++ y) back in
    let no_more = subst (λ d. HasNoOpenRecord (last_digest d fs) y) back no_y in
    let further = chain_unique (digest_behind before e) es fs x y all.1 others.1 on no_x no_more in
    record {
      texts = λ i. both.text i ∷ further.texts i;
      digest = further.digest ∙ ap (λ d. last_digest d fs) (sym back);
      rest = further.rest;
    }

-- a closed gate is not open
pub end_not_open : (before rest : List ℕ) → IsEnd rest → HasNoOpenRecord before rest
end_not_open before rest end entry r (behind, is, found) =
    let same : closed_gate ≡ open_gate = ap (λ (l : List ℕ). get_or l 0 0) (sym end.1 ∙ is) in absurd (omega (arith, same))

-- the last record is a part of them
last_of_chain : (before : List ℕ) (entries : List Entry) → AreEntries entries → last_size (texts_of entries) ≤ length (chain before entries)
last_of_chain before [] all = omega arith
last_of_chain before (e ∷ []) all =
    omega (arith, length-append (record_bytes before e) [], length_record before e all.0.time.0)
last_of_chain before (e ∷ next ∷ entries) all =
    let more = chain (digest_behind before e) (next ∷ entries) in
    omega (arith, length-append (record_bytes before e) more, last_of_chain (digest_behind before e) (next ∷ entries) all.1)

pub last_within : (identity : List ℕ) (entries : List Entry) → AreEntries entries
    → last_size (texts_of entries) ≤ length (front_of identity entries)
last_within identity entries all =
    omega (arith, last_of_chain (seed identity) entries all, length-append (header identity) (chain (seed identity) entries))
