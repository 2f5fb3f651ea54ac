-- Records at the front of bytes.
use Rattle.std.proofs.Common.{◌≡◌, ℕ, ◌+◌, ◌≤◌, ◌<◌, ◌^◌, List, [], ◌∷◌, ◌++◌, length, take, drop, refl, sym, ap, ◌∙◌, arith, length-append, append_assoc}
use Rattle.std.proofs.lemmas.List.{take_at, drop_at}
use Rattle.hex.specs.Hex.{encode_lower, lower_digits}
use Rattle.hex.proofs.HexLemmas.{length-encode_with}
use Rattle.sha2.specs.Sha256.{sha256}
use Rattle.sha2.proofs.Facts256.{length-sha256}
use Rattle.doc_server_journal_records.specs.Records.{Entry, IsEntry, IsTail, is_digit, is_plain, is_shut, text_limit, length_digits, head_of, body, digest_behind, foot_of, record_bytes}
use Rattle.doc_server_journal_records.specs.Readings.{IsRecord}
use Rattle.doc_server_journal_records.proofs.Digits.{all_append, all_weaker, digit_is_shut, digits_shut, length_is_shut, length_length, one_length, plain_is_shut}

-- ---- lengths

pub length_digest : (before : List ℕ) (entry : Entry) → length (digest_behind before entry) ≡ 32
unfolding digest_behind
length_digest before entry = length-sha256 (before ++ body entry)

pub length_foot : (before : List ℕ) (entry : Entry) → length (foot_of (digest_behind before entry)) ≡ 65
length_foot before entry =
    omega (
      arith,
      length-append (encode_lower (digest_behind before entry)) (10 ∷ []),
      length-encode_with lower_digits (digest_behind before entry),
      length_digest before entry,
    )

pub length_head : (count : ℕ) (time : List ℕ) → length time ≡ 10 → length (head_of count time) ≡ 20
length_head count time is =
    omega (arith, length-append (length_digits count) (32 ∷ time ++ 10 ∷ []), length_length count, length-append time (10 ∷ []), is)

-- ---- two parts, the first of one length

pub parts : (a b x y : List ℕ) → length a ≡ length b → a ++ x ≡ b ++ y → (a ≡ b) × (x ≡ y)
parts a b x y len same = (
  sym (take_at a x (length a) refl) ∙ ap (λ l. take (length a) l) same ∙ take_at b y (length a) (sym len),
  sym (drop_at a x (length a) refl) ∙ ap (λ l. drop (length a) l) same ∙ drop_at b y (length a) (sym len),
)

small : (n : ℕ) → n ≤ text_limit → n < 2 ^ 32
unfolding text_limit
small n fits = omega (arith, fits)

-- a head says one length
pub one_head : (n m : ℕ) (time when : List ℕ) → n ≤ text_limit → m ≤ text_limit → head_of n time ≡ head_of m when → n ≡ m
one_head n m time when n_fits m_fits same =
    let digits = parts (length_digits n) (length_digits m) (32 ∷ time ++ 10 ∷ []) (32 ∷ when ++ 10 ∷ []) (length_length n
    ∙ sym (length_length m)) same in
    one_length n m (small n n_fits) (small m m_fits) digits.0

-- ---- a record and the rest, in three parts

abbrev pub in_parts : List ℕ → Entry → List ℕ → List ℕ
in_parts before entry rest = head_of (length entry.text) entry.time ++ (entry.text ++ (foot_of (digest_behind before entry) ++ rest))

pub split_record : (before : List ℕ) (entry : Entry) (rest : List ℕ) → record_bytes before entry ++ rest ≡ in_parts before entry rest
unfolding record_bytes
split_record before entry rest =
    append_assoc (body entry) (foot_of (digest_behind before entry)) rest
    ∙ append_assoc (head_of (length entry.text) entry.time) entry.text (foot_of (digest_behind before entry) ++ rest)

pub length_record : (before : List ℕ) (entry : Entry) → length entry.time ≡ 10 → length (record_bytes before entry) ≡ 85 + length entry.text
unfolding record_bytes
length_record before entry is =
    omega (
      arith,
      length-append (body entry) (foot_of (digest_behind before entry)),
      length-append (head_of (length entry.text) entry.time) entry.text,
      length_head (length entry.text) entry.time is,
      length_foot before entry,
    )

-- what two records have in common that bytes begin with
pub record Same (before : List ℕ) (e f : Entry) (r s : List ℕ) : Type 0 where
  pub text : e.text ≡ f.text
  pub digest : digest_behind before e ≡ digest_behind before f
  pub rest : r ≡ s

digest_same : (before : List ℕ) (e f : Entry) → body e ≡ body f → digest_behind before e ≡ digest_behind before f
unfolding digest_behind
digest_same before e f same = ap (λ b. sha256 (before ++ b)) same

-- bytes begin with one record at most
pub record_unique : (before bytes : List ℕ) (e f : Entry) (r s : List ℕ) → IsRecord before e bytes r → IsRecord before f bytes s
    → Same before e f r s
record_unique before bytes e f r s x y =
    let same = sym (split_record before e r) ∙ sym x.split ∙ y.split ∙ split_record before f s in
    let heads = parts (head_of (length e.text) e.time) (head_of (length f.text) f.time) _ _
    (length_head (length e.text) e.time x.is_entry.time.0 ∙ sym (length_head (length f.text) f.time y.is_entry.time.0)) same in
    let len = one_head (length e.text) (length f.text) e.time f.time x.is_entry.within y.is_entry.within heads.0 in
    let texts = parts e.text f.text _ _ len heads.1 in
    let bodies : body e ≡ body f = ap (λ h. h ++ e.text) heads.0 ∙ ap (λ t. head_of (length f.text) f.time ++ t) texts.0 in
    let feet = parts (foot_of (digest_behind before e)) (foot_of (digest_behind before f)) r s (length_foot before e
    ∙ sym (length_foot before f)) texts.1 in
    record { text = texts.0; digest = digest_same before e f bodies; rest = feet.1 }

-- ---- no gate stands in a record

pub record_shut : (before : List ℕ) (entry : Entry) → IsEntry entry → IsTail (record_bytes before entry)
unfolding record_bytes
record_shut before entry is =
    let head = all_append is_shut (length_digits (length entry.text)) (32 ∷ entry.time ++ 10 ∷ [])
    (length_is_shut (length entry.text))
    (all_append is_shut entry.time (10 ∷ []) (all_weaker is_digit is_shut digit_is_shut entry.time is.time.1) refl) in
    let text = all_weaker is_plain is_shut plain_is_shut entry.text is.plain in
    let foot = all_append is_shut (encode_lower (digest_behind before entry)) (10 ∷ [])
    (digits_shut (digest_behind before entry)) refl in
    all_append is_shut (body entry) (foot_of (digest_behind before entry))
    (all_append is_shut (head_of (length entry.text) entry.time) entry.text head text) foot
