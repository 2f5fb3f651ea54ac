-- What stands behind an open gate, part by part.
use Rattle.std.proofs.Common.{◌≡◌, inl, inr, ℕ, ◌+◌, ◌≤◌, ◌<◌, List, ◌++◌, length, take, drop, refl, sym, ap, subst, ◌∙◌, arith, length-append, length-take}
use Rattle.std.proofs.lemmas.List.{take_at, drop_at, take-append-drop}
use Rattle.sha2.specs.Sha256.{sha256}
use Rattle.doc_server_journal_records.specs.Records.{Entry, AreDigits, IsPlain, text_limit, head_of, digest_behind, foot_of, record_bytes}
use Rattle.doc_server_journal_records.specs.Readings.{IsRecord, IsShort, HasNoRecord}
use Rattle.doc_server_journal_records.proofs.RecordLemmas.{length_foot, length_head, length_record, one_head, split_record, in_parts}

-- ---- a record that was found

digest_is : (before time text digest : List ℕ) → digest ≡ sha256 (before ++ (head_of (length text) time ++ text))
    → digest ≡ digest_behind before (record { time = time; text = text })
unfolding digest_behind
digest_is before time text digest is = is

pub is_front : (before bytes head behind text after foot rest digest time : List ℕ) (len : ℕ) → head ≡ take 20 bytes
    → behind ≡ drop 20 bytes → len ≤ text_limit → AreDigits 10 time → head ≡ head_of len time → len + 65 ≤ length behind
    → text ≡ take len behind → after ≡ drop len behind → foot ≡ take 65 after → rest ≡ drop 65 after → IsPlain text
    → digest ≡ sha256 (before ++ (head ++ text)) → foot ≡ foot_of digest
    → (entry : Entry) × IsRecord before entry bytes rest × (text ≡ entry.text) × (digest ≡ digest_behind before entry)
is_front before bytes head behind text after foot rest digest time len head_is behind_is fits digits names room text_is after_is foot_is
    rest_is plain hashed same =
    let long : len ≡ length text = omega (arith, ap length text_is, length-take len behind, room) in
    let named : head ≡ head_of (length text) time = names ∙ ap (λ n. head_of n time) long in
    let entry : Entry = record { time = time; text = text } in
    let hash : digest ≡ digest_behind before entry =
    digest_is before time text digest (hashed ∙ ap (λ h. sha256 (before ++ (h ++ text))) named) in
    let first : bytes ≡ head ++ behind = sym (take-append-drop 20 bytes) ∙ ap (λ l. l ++ drop 20 bytes) (sym head_is)
    ∙ ap (λ l. head ++ l) (sym behind_is) in
    let second : behind ≡ text ++ after =
    sym (take-append-drop len behind) ∙ ap (λ l. l ++ drop len behind) (sym text_is) ∙ ap (λ l. text ++ l) (sym after_is) in
    let third : after ≡ foot ++ rest =
    sym (take-append-drop 65 after) ∙ ap (λ l. l ++ drop 65 after) (sym foot_is) ∙ ap (λ l. foot ++ l) (sym rest_is) in
    let whole : bytes ≡ head ++ (text ++ (foot ++ rest)) = first ∙ ap (λ l. head ++ l) (second ∙ ap (λ l. text ++ l) third) in (
      entry,
      record {
        is_entry = record { time = digits; within = subst (λ n. n ≤ text_limit) long fits; plain = plain };
        split = whole ∙ ap (λ l. l ++ (text ++ (foot ++ rest))) named
            ∙ ap (λ f. head_of (length text) time ++ (text ++ (f ++ rest))) (same ∙ ap foot_of hash)
            ∙ sym (split_record before entry rest);
      },
      refl,
      hash,
    )

-- ---- a record that is there

module _ (before bytes : List ℕ) (e : Entry) (r : List ℕ) (is : IsRecord before e bytes r) where
  its_parts : bytes ≡ in_parts before e r
  its_parts = is.split ∙ split_record before e r

  pub long_enough : 85 + length e.text + length r ≡ length bytes
  long_enough =
      omega (arith, ap length is.split, length-append (record_bytes before e) r, length_record before e is.is_entry.time.0)

  pub head_part : take 20 bytes ≡ head_of (length e.text) e.time
  head_part =
      ap (λ l. take 20 l) its_parts
      ∙ take_at (head_of (length e.text) e.time) (e.text ++ (foot_of (digest_behind before e) ++ r)) 20
      (length_head (length e.text) e.time is.is_entry.time.0)

  behind_part : drop 20 bytes ≡ e.text ++ (foot_of (digest_behind before e) ++ r)
  behind_part =
      ap (λ l. drop 20 l) its_parts
      ∙ drop_at (head_of (length e.text) e.time) (e.text ++ (foot_of (digest_behind before e) ++ r)) 20
      (length_head (length e.text) e.time is.is_entry.time.0)

  module _ (time : List ℕ) (len : ℕ) (fits : len ≤ text_limit) (names : take 20 bytes ≡ head_of len time) where
    pub len_is : len ≡ length e.text
    len_is = one_head len (length e.text) time e.time fits is.is_entry.within (sym names ∙ head_part)

    pub text_part : take len (drop 20 bytes) ≡ e.text
    text_part =
        ap (λ l. take len l) behind_part ∙ take_at e.text (foot_of (digest_behind before e) ++ r) len (sym len_is)

    pub foot_part : take 65 (drop len (drop 20 bytes)) ≡ foot_of (digest_behind before e)
    foot_part =
        ap (λ l. take 65 (drop len l)) behind_part
        ∙ ap (λ l. take 65 l) (drop_at e.text (foot_of (digest_behind before e) ++ r) len (sym len_is))
        ∙ take_at (foot_of (digest_behind before e)) r 65 (length_foot before e)

-- ---- none

pub none_so_short : (before bytes : List ℕ) → length bytes < 20 → HasNoRecord before bytes × IsShort bytes
none_so_short before bytes short = (λ e r is. omega (arith, short, long_enough before bytes e r is), inl short)

abbrev NamesNone : List ℕ → Type 0
NamesNone head = (count : ℕ) (time : List ℕ) → count ≤ text_limit → AreDigits 10 time → head ≡ head_of count time → ⊥

pub no_head : (before bytes head : List ℕ) → 20 ≤ length bytes → head ≡ take 20 bytes → NamesNone head
    → HasNoRecord before bytes × (IsShort bytes → ⊥)
no_head before bytes head long head_is none = (
  λ e r is. none (length e.text) e.time is.is_entry.within is.is_entry.time (head_is ∙ head_part before bytes e r is),
  λ short. by short,
)
  where
    by : IsShort bytes → ⊥
    by (inl few) = omega (arith, few, long)
    by (inr (count, time, fits, digits, names, few)) = none count time fits digits (head_is ∙ names)

module _ (before bytes head behind time : List ℕ) (len : ℕ) (head_is : head ≡ take 20 bytes) (behind_is : behind ≡ drop 20 bytes)
    (fits : len ≤ text_limit) (digits : AreDigits 10 time) (names : head ≡ head_of len time)
    (whole : length behind + 20 ≡ length bytes) where
  named : take 20 bytes ≡ head_of len time
  named = sym head_is ∙ names

  pub too_short : length behind < len + 65 → HasNoRecord before bytes × IsShort bytes
  too_short few = (
    λ e r is. omega (arith, few, whole, long_enough before bytes e r is, len_is before bytes e r is time len fits named),
    inr (len, time, fits, digits, named, omega (arith, few, whole)),
  )

  not_short : len + 65 ≤ length behind → IsShort bytes → ⊥
  not_short room (inl few) = omega (arith, few, whole)
  not_short room (inr (count, when, within, these, says, few)) =
      omega (arith, few, whole, room, one_head len count time when fits within (sym named ∙ says))

  module _ (text : List ℕ) (room : len + 65 ≤ length behind) (text_is : text ≡ take len behind) where
    text_same : (e : Entry) (r : List ℕ) → IsRecord before e bytes r → text ≡ e.text
    text_same e r is =
        text_is ∙ ap (λ l. take len l) behind_is ∙ text_part before bytes e r is time len fits named

    pub not_plain : (IsPlain text → ⊥) → HasNoRecord before bytes × (IsShort bytes → ⊥)
    not_plain other = (
      λ e r is. other (subst (λ t. IsPlain t) (sym (text_same e r is)) is.is_entry.plain),
      not_short room,
    )

    digest_same : (e : Entry) (r digest : List ℕ) → IsRecord before e bytes r → digest ≡ sha256 (before ++ (head ++ text))
        → digest ≡ digest_behind before e
    unfolding digest_behind
    digest_same e r digest is hashed =
        hashed ∙ ap (λ h. sha256 (before ++ (h ++ text))) (head_is ∙ head_part before bytes e r is)
        ∙ ap (λ t. sha256 (before ++ (head_of (length e.text) e.time ++ t))) (text_same e r is)

    pub other_foot : (after foot digest : List ℕ) → after ≡ drop len behind → foot ≡ take 65 after
        → digest ≡ sha256 (before ++ (head ++ text)) → (foot ≡ foot_of digest → ⊥) → HasNoRecord before bytes × (IsShort bytes → ⊥)
    other_foot after foot digest after_is foot_is hashed other = (
      λ e r is. other (foot_is ∙ ap (λ l. take 65 l) (after_is ∙ ap (λ l. drop len l) behind_is)
          ∙ foot_part before bytes e r is time len fits named ∙ ap foot_of (sym (digest_same e r digest is hashed))),
      not_short room,
    )
