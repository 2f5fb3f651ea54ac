-- How records are taken one after another.
use Rattle.std.proofs.Common.{◌==◌, inr, true≢false, Result, Ok, Err, IfOk, ◌≡◌, ℕ, ◌+◌, ◌<◌, Bool, true, false, List, [], ◌∷◌, ◌++◌, length, refl, sym, ap, subst, ◌∙◌, arith, length-append}
use Rattle.std.proofs.lemmas.Bool.Decides.{Decides-eqb}
use Rattle.doc_server_journal_records.specs.Records.{Entry, open_gate, digest_behind, record_bytes, chain, last_digest, texts_of}
use Rattle.doc_server_journal_records.specs.Readings.{AreChain, AreRead, IsOpenRecord}
use Rattle.doc_server_journal_records.proofs.ChainLemmas.{chain_push, last_push, entries_push, texts_push}
use Rattle.doc_server_journal_records.proofs.FrontLemmas.{long_enough}
use Rattle.doc_server_follow.specs.Follows.{HasGate}
use Rattle.doc_server_follow.specs.Sights.{EndsSo, IsTaken, Stands, beyond}
use Rattle.doc_server_follow.specs.declared.followed.Followed.{Followed}
use Rattle.doc_server_follow.specs.declared.sight.Sight.{Sight}
use Rattle.doc_server_follow.specs.declared.sight.Sight.TheVariants as sights
use Rattle.doc_server_follow.specs.declared.taken.Taken.{Taken}
use Rattle.doc_server_follow.proofs.PieceLemmas.{short_behind}

pub none_read : (before bytes : List ℕ) → AreRead before bytes [] before bytes
none_read before bytes =
    record { entries = []; are = record { are_entries = tt; split = refl }; texts_are = refl; digest_is = refl }

one_more : (before bytes : List ℕ) (entries : List Entry) (digest : List ℕ) (entry : Entry) (rest behind : List ℕ)
    → AreChain before bytes entries rest → digest ≡ last_digest before entries → IsOpenRecord digest entry rest behind
    → AreChain before bytes (entries ++ entry ∷ []) behind
one_more before bytes entries digest entry rest behind are digest_is (inner, is_open, is) = record {
  are_entries = entries_push entries entry are.are_entries is.is_entry;
  split = are.split
      ∙ ap (λ l. chain before entries ++ l) (is_open ∙ ap (λ (l : List ℕ). open_gate ∷ l) (is.split
      ∙ ap (λ d. record_bytes d entry ++ behind) digest_is))
      ∙ sym (chain_push before entries entry behind);
}

pub goes_on : (before bytes : List ℕ) (texts news : List (List ℕ)) (digest next text rest behind : List ℕ) (entry : Entry)
    → AreRead before bytes texts digest rest → IsOpenRecord digest entry rest behind → text ≡ entry.text → next ≡ digest_behind digest entry
    → news ≡ texts ++ text ∷ [] → AreRead before bytes news next behind
goes_on before bytes texts news digest next text rest behind entry knows found text_is next_is news_is = record {
  entries = knows.entries ++ entry ∷ [];
  are = one_more before bytes knows.entries digest entry rest behind knows.are knows.digest_is found;
  texts_are = news_is ∙ ap (λ t. texts ++ t ∷ []) text_is ∙ ap (λ ts. ts ++ entry.text ∷ []) knows.texts_are
      ∙ sym (texts_push knows.entries entry);
  digest_is = next_is ∙ ap (λ d. digest_behind d entry) knows.digest_is ∙ sym (last_push before knows.entries entry);
}

pub fewer : (digest : List ℕ) (entry : Entry) (rest behind : List ℕ) → IsOpenRecord digest entry rest behind → length behind < length rest
fewer digest entry rest behind (inner, is_open, is) =
    omega (arith, ap (λ (l : List ℕ). length l) is_open, long_enough digest inner entry behind is)

-- ---- what was taken

counted : (entries : List Entry) → length (texts_of entries) ≡ length entries
counted [] = refl
counted (entry ∷ entries) = omega (arith, counted entries)

no_entries : (entries : List Entry) → [] ≡ texts_of entries → entries ≡ []
no_entries [] same = refl
no_entries (entry ∷ entries) same = absurd (omega (arith, ap (λ (l : List (List ℕ)). length l) same))

module _ (before bytes : List ℕ) (taken : Taken) (is : IsTaken before bytes taken) where
  -- nothing
  pub taken_none : taken.texts ≡ [] → EndsSo before bytes taken.is_short
  taken_none none =
      let no_more = no_entries is.read.entries (sym none ∙ is.read.texts_are) in
      let digest_is : taken.digest ≡ before = is.read.digest_is ∙ ap (λ es. last_digest before es) no_more in
      let rest_is : is.rest ≡ bytes = sym (is.read.are.split ∙ ap (λ es. chain before es ++ is.rest) no_more) in
      subst (λ d. EndsSo d bytes taken.is_short) digest_is (subst (λ l. EndsSo taken.digest l taken.is_short) rest_is is.ends)

  len_is : taken.len ≡ length (chain before is.read.entries)
  len_is = omega (
    arith,
    is.len,
    ap (λ (l : List ℕ). length l) is.read.are.split,
    length-append (chain before is.read.entries) is.rest,
  )

  count_is : length taken.texts ≡ length is.read.entries
  count_is = ap (λ (l : List (List ℕ)). length l) is.read.texts_are ∙ counted is.read.entries

module _ (followed : Followed) (bytes : List ℕ) (taken : Taken) (digest : List ℕ) (digest_is : digest ≡ followed.digest)
    (taken_is : IsTaken digest bytes taken) where
  is : IsTaken followed.digest bytes taken
  is = subst (λ d. IsTaken d bytes taken) digest_is taken_is

  taken_more : (taken.texts ≡ [] → ⊥) → Stands followed bytes (sights.More taken.texts (beyond followed taken))
  taken_more some = (
    is.read.entries,
    is.rest,
    record {
      some = λ none. some (is.read.texts_are ∙ ap (λ es. texts_of es) none);
      are_entries = is.read.are.are_entries;
      texts_are = is.read.texts_are;
      new_is = λ i. record {
        header = followed.header;
        end = followed.end + len_is followed.digest bytes taken is i;
        records = followed.records + count_is followed.digest bytes taken is i;
        digest = is.read.digest_is i;
      };
    },
    is.read.are.split,
  )

  pub more_stands : {E : Type 0} (r : Result Sight E) → (taken.texts ≡ [] → ⊥)
      → IfOk r (λ sight. sight ≡ sights.More taken.texts (beyond followed taken)) → IfOk r (λ sight. Stands followed bytes sight)
  more_stands (Ok sight) some same = subst (λ s. Stands followed bytes s) (sym same) (taken_more some)
  more_stands (Err e) some same = tt

  module _ (none : taken.texts ≡ []) (opened : (behind : List ℕ) × (bytes ≡ open_gate ∷ behind)) where
    ends : (b : Bool) → taken.is_short ≡ b → EndsSo followed.digest bytes b
    ends b same = subst (λ t. EndsSo followed.digest bytes t) same (taken_none followed.digest bytes taken is none)

    pub short_stands : taken.is_short ≡ true → Stands followed bytes sights.Short
    short_stands same =
        let here = ends true same in (opened.0, opened.1, here.0, short_behind bytes opened.0 opened.1 here.1)

    pub broken_stands : taken.is_short ≡ false → Stands followed bytes sights.Damaged
    broken_stands same =
        let here = ends false same in
        record { gate = subst HasGate (sym opened.1) (inr refl); not_open = here.0; never = here.1 }

-- ---- whether there are any

pub not_any : (texts items : List (List ℕ)) (b : Bool) → items ≡ texts → b ≡ (length items == 0) → b ≡ true → texts ≡ []
not_any texts items b same tells holds = sym same ∙ none items ((Decides-eqb (length items) 0).0 (sym tells ∙ holds))
  where
    none : (items : List (List ℕ)) → length items ≡ 0 → items ≡ []
    none [] size = refl
    none (x ∷ items) size = absurd (omega (arith, size))

pub some_are : (texts items : List (List ℕ)) (b : Bool) → items ≡ texts → b ≡ (length items == 0) → b ≡ false → texts ≡ [] → ⊥
some_are texts items b same tells fails none =
    true≢false (sym (tells ∙ (Decides-eqb (length items) 0).1 (ap (λ (l : List (List ℕ)). length l) (same ∙ none))) ∙ fails)
