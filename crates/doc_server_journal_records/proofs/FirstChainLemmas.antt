-- Records one behind the other.
use Rattle.std.proofs.Common.{◌≡◌, ℕ, ◌≤◌, List, [], ◌∷◌, ◌++◌, length, drop, get_or, refl, sym, ap, subst, ◌∙◌, arith, length-append, append_assoc}
use Rattle.std.proofs.lemmas.List.{append-nil}
use Rattle.doc_server_journal_records.specs.FirstRecords.{text_limit, digest_behind, record_bytes, chain, last_digest, AreWithin}
use Rattle.doc_server_journal_records.specs.FirstReadings.{IsRecord, HasNoOpenRecord, IsEnd}
use Rattle.doc_server_journal_records.proofs.FirstRecordLemmas.{record_unique, length_record}

-- one record more
pub chain_push : (before : List ℕ) (texts : List (List ℕ)) (text rest : List ℕ)
    → chain before (texts ++ text ∷ []) ++ rest ≡ chain before texts ++ (1 ∷ (record_bytes (last_digest before texts) text ++ rest))
chain_push before [] text rest = ap (λ (l : List ℕ). 1 ∷ (l ++ rest)) (append-nil (record_bytes before text))
chain_push before (t ∷ texts) text rest =
    let more = chain (digest_behind before t) (texts ++ text ∷ []) in
    let last = last_digest (digest_behind before t) texts in
    let whole = append_assoc (record_bytes before t) more rest
    ∙ ap (λ l. record_bytes before t ++ l) (chain_push (digest_behind before t) texts text rest)
    ∙ sym (append_assoc (record_bytes before t) (chain (digest_behind before t) texts) (1 ∷ (record_bytes last text ++ rest))) in
    ap (λ (l : List ℕ). 1 ∷ l) whole

pub last_push : (before : List ℕ) (texts : List (List ℕ)) (text : List ℕ)
    → last_digest before (texts ++ text ∷ []) ≡ digest_behind (last_digest before texts) text
last_push before [] text = refl
last_push before (t ∷ texts) text = last_push (digest_behind before t) texts text

pub within_push : (texts : List (List ℕ)) (text : List ℕ) → AreWithin texts → length text ≤ text_limit → AreWithin (texts ++ text ∷ [])
within_push [] text all fits = (fits, tt)
within_push (t ∷ texts) text all fits = (all.0, within_push texts text all.1 fits)

-- the first record of a chain
head_record : (before t : List ℕ) (ts : List (List ℕ)) (x : List ℕ) → length t ≤ text_limit
    → IsRecord before t ((record_bytes before t ++ chain (digest_behind before t) ts) ++ x) (chain (digest_behind before t) ts ++ x)
head_record before t ts x fits =
    record { within = fits; split = append_assoc (record_bytes before t) (chain (digest_behind before t) ts) x }

tail_same : (x y : List ℕ) → 1 ∷ x ≡ 1 ∷ y → x ≡ y
tail_same x y same = ap (λ (l : List ℕ). drop 1 l) same

-- bytes are one chain alone, where no open record stands behind it
pub chain_unique : (before : List ℕ) (ts us : List (List ℕ)) (x y : List ℕ) → AreWithin ts → AreWithin us
    → chain before ts ++ x ≡ chain before us ++ y
    → HasNoOpenRecord (last_digest before ts) x → HasNoOpenRecord (last_digest before us) y → (ts ≡ us) × (x ≡ y)
chain_unique before [] [] x y all others same no_x no_y = (refl, same)
chain_unique before [] (u ∷ us) x y all others same no_x no_y =
    absurd (no_x ((record_bytes before u ++ chain (digest_behind before u) us) ++ y) same u (chain (digest_behind before u) us ++ y)
    (head_record before u us y others.0))
chain_unique before (t ∷ ts) [] x y all others same no_x no_y =
    absurd (no_y ((record_bytes before t ++ chain (digest_behind before t) ts) ++ x) (sym same) t (chain (digest_behind before t) ts ++ x)
    (head_record before t ts x all.0))
chain_unique before (t ∷ ts) (u ∷ us) x y all others same no_x no_y =
    let left = (record_bytes before t ++ chain (digest_behind before t) ts) ++ x in
    let right = (record_bytes before u ++ chain (digest_behind before u) us) ++ y in
    let rests : left ≡ right = tail_same left right same in
    let first = head_record before t ts x all.0 in
    let second : IsRecord before u left (chain (digest_behind before u) us ++ y) =
    record { within = others.0; split = rests ∙ append_assoc (record_bytes before u) (chain (digest_behind before u) us) y } in
    let both = record_unique before left t u _ _ first second in
    let back : u ≡ t = sym both.0 in
    let on = both.1 ∙ ap (λ l. chain (digest_behind before l) us ++ y) back in
    let no_more = subst (λ l. HasNoOpenRecord (last_digest (digest_behind before l) us) y) back no_y in
    let further = chain_unique (digest_behind before t) ts us x y all.1 others.1 on no_x no_more in
    (λ i. both.0 i ∷ further.0 i, further.1)

-- a closed gate is not open
pub end_not_open : (before rest : List ℕ) → IsEnd before rest → HasNoOpenRecord before rest
end_not_open before rest end behind is t r found =
    let same : 0 ≡ 1 = ap (λ (l : List ℕ). get_or l 0 0) (sym end.1 ∙ is) in absurd (omega (arith, same))

-- a chain of one record or more is long
pub short_chain : (before : List ℕ) (texts : List (List ℕ)) (rest : List ℕ) → length (chain before texts ++ rest) ≤ 1 → texts ≡ []
short_chain before [] rest short = refl
short_chain before (t ∷ texts) rest short =
    let tail = chain (digest_behind before t) texts in
    let long : 36 ≤ length ((record_bytes before t ++ tail) ++ rest) =
    omega (
      arith,
      length-append (record_bytes before t ++ tail) rest,
      length-append (record_bytes before t) tail,
      length_record before t,
    ) in absurd (omega (arith, short, long))
