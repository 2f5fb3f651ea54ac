-- How a reading of the first form goes on, and how it ends.
use Rattle.std.proofs.Common.{◌≡◌, inl, inr, Bool, true, false, ◌==◌, ℕ, ◌+◌, ◌<◌, ◌≤◌, List, [], ◌∷◌, ◌++◌, length}
use Rattle.std.proofs.Common.{refl, sym, ap, subst, ◌∙◌, arith, eqb-true, length-append}
use Rattle.std.proofs.lemmas.Bool.{eqb-false}
use Rattle.doc_server_journal_records.specs.FirstRecords.{seed, digest_behind, record_bytes, chain, last_digest}
use Rattle.doc_server_journal_records.specs.FirstReadings.{IsRecord, IsOpenRecord, HasNoOpenRecord, IsTail, IsEnd, IsBegun, AreRecords, IsFirst}
use Rattle.doc_server_journal_records.proofs.FirstChainLemmas.{chain_push, last_push, within_push, chain_unique, end_not_open}
use Rattle.doc_server_journal_records.proofs.FirstFrontLemmas.{long_enough}
use Rattle.doc_server_journal_records.proofs.FirstRecordLemmas.{record_unique}

pub no_tail : (before bytes text rest : List ℕ) → IsRecord before text bytes rest → 1 < length rest → IsTail before bytes → ⊥
no_tail before bytes text rest is long (inl (t, r, found, short)) =
    omega (arith, long, short, ap length (record_unique before bytes text t rest r is found).1)
no_tail before bytes text rest is long (inr (fits, none)) = none text rest is

-- one open record more
pub one_more : (bytes : List ℕ) (texts : List (List ℕ)) (digest text rest behind : List ℕ) → AreRecords bytes texts rest
    → digest ≡ last_digest seed texts
    → IsOpenRecord digest text rest behind → AreRecords bytes (texts ++ text ∷ []) behind
one_more bytes texts digest text rest behind are digest_is (inner, is_open, is) =
    let last = last_digest seed texts in
    record {
      within = within_push texts text are.within is.within;
      split = are.split
          ∙ ap (λ l. chain seed texts ++ l) (is_open ∙ ap (λ (l : List ℕ). 1 ∷ l) (is.split
          ∙ ap (λ d. record_bytes d text ++ behind) digest_is))
          ∙ sym (chain_push seed texts text behind);
    }

pub shorter : (digest text rest behind : List ℕ) → IsOpenRecord digest text rest behind → length behind < length rest
shorter digest text rest behind (inner, is_open, is) = omega (arith, ap length is_open, long_enough digest inner text behind is)

pub size : (bytes : List ℕ) (texts : List (List ℕ)) (rest : List ℕ) → AreRecords bytes texts rest
    → length bytes ≡ length (chain seed texts) + length rest
size bytes texts rest are = ap length are.split ∙ length-append (chain seed texts) rest

-- what a reading knows after one record more
pub going_on : (bytes : List ℕ) (texts news : List (List ℕ)) (digest next text rest behind : List ℕ) → AreRecords bytes texts rest
    → digest ≡ last_digest seed texts → length texts + length rest ≤ length bytes → IsOpenRecord digest text rest behind
    → next ≡ digest_behind digest text → news ≡ texts ++ text ∷ []
    → AreRecords bytes news behind × (next ≡ last_digest seed news) × (length news + length behind ≤ length bytes)
going_on bytes texts news digest next text rest behind are digest_is count found next_is news_is =
    let more = one_more bytes texts digest text rest behind are digest_is found in
    let last = next_is ∙ ap (λ d. digest_behind d text) digest_is ∙ sym (last_push seed texts text) in
    let fewer = shorter digest text rest behind found in
    let counted : length (texts ++ text ∷ []) + length behind ≤ length bytes =
    omega (arith, count, fewer, length-append texts (text ∷ [])) in
    subst (λ ts. AreRecords bytes ts behind × (next ≡ last_digest seed ts) × (length ts + length behind ≤ length bytes)) (sym news_is)
    (more, last, counted)

-- whether a reading found a record
no_length : (texts : List (List ℕ)) → length texts ≡ 0 → texts ≡ []
no_length [] none = refl
no_length (t ∷ texts) none = absurd (omega (arith, none))

pub none_there : (found texts : List (List ℕ)) (test : Bool) → found ≡ texts → test ≡ (length found == 0) → test ≡ true → texts ≡ []
none_there found texts test same is holds = no_length texts (ap length (sym same) ∙ eqb-true (length found) 0 (sym is ∙ holds))

pub not_none : (found texts : List (List ℕ)) (test : Bool) → found ≡ texts → test ≡ (length found == 0) → test ≡ false → texts ≡ [] → ⊥
not_none found texts test same is holds none = eqb-false (length found) 0 (sym is ∙ holds) (ap length (same ∙ none))

-- a reading that comes to an end behind a record
pub whole : (bytes : List ℕ) (texts : List (List ℕ)) (rest digest : List ℕ) → IsBegun bytes → (texts ≡ [] → ⊥)
    → AreRecords bytes texts rest → digest ≡ last_digest seed texts → IsEnd digest rest → IsFirst bytes texts
whole bytes texts rest digest begun some are digest_is ends =
    (begun, inl (some, rest, are, subst (λ d. IsEnd d rest) digest_is ends))

pub begun_alone : (bytes : List ℕ) (texts : List (List ℕ)) → IsBegun bytes → length bytes ≡ 1 → texts ≡ [] → IsFirst bytes texts
begun_alone bytes texts begun one none = (begun, inr (omega (arith, one), none))

-- bytes that begin with a gate and aren't a gate alone are more than one
more_bytes : (bytes : List ℕ) → (IsBegun bytes → (length bytes ≡ 1) → ⊥) → IsBegun bytes → length bytes ≤ 1 → ⊥
more_bytes [] long begun short = begun
more_bytes (b ∷ bytes) long begun short = long begun (omega (arith, short))

-- what ends is what a reading found
found_ends : (bytes : List ℕ) (texts others : List (List ℕ)) (rest x digest : List ℕ) → AreRecords bytes texts rest
    → digest ≡ last_digest seed texts → HasNoOpenRecord digest rest → AreRecords bytes others x → IsEnd (last_digest seed others) x
    → (others ≡ texts) × (x ≡ rest)
found_ends bytes texts others rest x digest are digest_is not_open these end =
    chain_unique seed others texts x rest these.within are.within (sym these.split ∙ are.split) (end_not_open _ x end)
    (subst (λ d. HasNoOpenRecord d rest) digest_is not_open)

-- a reading that comes to no record
pub no_record : (bytes : List ℕ) (texts : List (List ℕ)) (rest digest : List ℕ) → (IsBegun bytes → (length bytes ≡ 1) → ⊥)
    → AreRecords bytes texts rest → digest ≡ last_digest seed texts → HasNoOpenRecord digest rest → texts ≡ []
    → (others : List (List ℕ)) → IsFirst bytes others → ⊥
no_record bytes texts rest digest long are digest_is not_open empty others (begun, inl (some, x, these, end)) =
    some ((found_ends bytes texts others rest x digest are digest_is not_open these end).0 ∙ empty)
no_record bytes texts rest digest long are digest_is not_open empty others (begun, inr (short, none)) = more_bytes bytes long begun short

-- a reading that comes to no end
pub no_journal : (bytes : List ℕ) (texts : List (List ℕ)) (rest digest : List ℕ) → (IsBegun bytes → (length bytes ≡ 1) → ⊥)
    → AreRecords bytes texts rest → digest ≡ last_digest seed texts → HasNoOpenRecord digest rest → (IsEnd digest rest → ⊥)
    → (others : List (List ℕ)) → IsFirst bytes others → ⊥
no_journal bytes texts rest digest long are digest_is not_open no_end others (begun, inl (some, x, these, end)) =
    let both = found_ends bytes texts others rest x digest are digest_is not_open these end in
    let there = subst (λ l. IsEnd (last_digest seed others) l) both.1 end in
    no_end (subst (λ d. IsEnd d rest) (ap (λ ts. last_digest seed ts) both.0 ∙ sym digest_is) there)
no_journal bytes texts rest digest long are digest_is not_open no_end others (begun, inr (short, none)) = more_bytes bytes long begun short
