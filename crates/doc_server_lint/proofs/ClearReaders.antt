-- Readers that are taken, by their rows.
use Rattle.std.proofs.Common.{◌≡◌, ◌+◌, ℕ, List, [], ◌∷◌, ◌++◌, Bool, true, false, not, cond, ◌&&◌, ◌||◌, is_some, is_ok, append_assoc, refl}
use Rattle.std.proofs.Common.{ap, sym, ◌∙◌}
use Rattle.std.proofs.Common.{codes, subst}
use Rattle.std.specs.Prelude.{Option, Some, None, Result, Ok, Err, if◌then◌else◌}
use Rattle.std.specs.FinMap as map
use Rattle.std.specs.Cmp.Lexicographic.{slice_cmp}
use Rattle.std.specs.Option.{option_or}
use Rattle.std.specs.Ordering.{nat_cmp}
use Rattle.std.proofs.lemmas.List.{append-nil}
use Rattle.std.proofs.lemmas.Option.{same_Some}
use Rattle.toml.specs.Data.{Data, Items, no_items, item, get}
use Rattle.doc_store_readers.specs.declared.entries.Entry.{Entry}
use Rattle.doc_store_readers.specs.declared.reader.Reader.{Reader}
use Rattle.doc_store_readers.specs.declared.readers.ReadersError.{ReadersError}
use Rattle.doc_store_readers.specs.declared.readers.ReadersError.TheVariants.{BadRow, Twice}
use Rattle.doc_store_readers.specs.declared.keys.Key.{Key}
use Rattle.doc_store_readers.specs.declared.keys.Key.TheVariants.{Token, Digest}
use Rattle.doc_store_readers.specs.Keys.{key_in}
use Rattle.doc_store_readers.specs.Readers.{Listed, by_their_digests, comes_again, entries_from, entry_of, entry_with, groups_at, is_listed}
use Rattle.doc_store_readers.specs.Readers.{listed_with, none_listed, owner_at, readers_from, readers_of_entries}
use Rattle.doc_store_readers.proofs.KeySteps.{contains_set, same_key}
use Rattle.doc_page_parts.proofs.Bools.{and_first, and_second, clash}
use Rattle.sha2.specs.Sha256.{sha256}
use Rattle.doc_server_lint.specs.declared.known_readers.KnownReaders.{KnownReaders}
use Rattle.doc_server_lint.specs.Faults.{Rows, known_as, known_at, known_with, nobody_known, with_reader}
use Rattle.doc_server_lint.proofs.ClearRows.{are_fresh, each}

abbrev pub is_reader : Data → Bool
is_reader row = is_some (entry_of row)

abbrev pub kept : Option Entry → List Entry → List Entry
kept None entries = entries
kept (Some entry) entries = entry ∷ entries

-- the entries of the rows that have one
abbrev pub entries_in : Items → List Entry
entries_in no_items = []
entries_in (item row rest) = kept (entry_of row) (entries_in rest)

pub entries_taken : (found : List Entry) (n : ℕ) (rows : Items) → is_ok (entries_from found n rows) ≡ each is_reader rows
entries_taken found n no_items = refl
entries_taken found n (item row rest) = by (entry_of row) (λ entry. entries_taken (found ++ entry ∷ []) (n + 1) rest)
  where
    by : (entry : Option Entry)
        → ((entry : Entry) → is_ok (entries_from (found ++ entry ∷ []) (n + 1) rest) ≡ each is_reader rest)
        → is_ok (elim entry as (λ _. Result (List Entry) ReadersError) [
          | None ↦ Err (BadRow n)
          | Some entry ↦ entries_from (found ++ entry ∷ []) (n + 1) rest
        ]) ≡ (is_some entry && each is_reader rest)
    by None more = refl
    by (Some entry) more = more entry

pub entries_are : (found : List Entry) (n : ℕ) (rows : Items) → each is_reader rows ≡ true
    → entries_from found n rows ≡ Ok (found ++ entries_in rows)
entries_are found n no_items all = ap Ok (sym (append-nil found))
entries_are found n (item row rest) all = by (entry_of row) (λ entry. entries_are (found ++ entry ∷ []) (n + 1) rest) all
  where
    by : (entry : Option Entry)
        → ((entry : Entry) → each is_reader rest ≡ true
        → entries_from (found ++ entry ∷ []) (n + 1) rest ≡ Ok ((found ++ entry ∷ []) ++ entries_in rest))
        → (is_some entry && each is_reader rest) ≡ true
        → elim entry as (λ _. Result (List Entry) ReadersError) [
          | None ↦ Err (BadRow n)
          | Some entry ↦ entries_from (found ++ entry ∷ []) (n + 1) rest
        ] ≡ Ok (found ++ kept entry (entries_in rest))
    by None more all = cc
    by (Some entry) more all = more entry all ∙ ap Ok (append_assoc found (entry ∷ []) (entries_in rest))

-- a reader's entry has its key
pub key_is : (a : Option Key) (b : Option Bool) (c : Option (List (List ℕ))) (entry : Entry) → entry_with a b c ≡ Some entry
    → a ≡ Some entry.key
key_is None b c entry is = cc
key_is (Some a) None c entry is = cc
key_is (Some a) (Some b) None entry is = cc
key_is (Some a) (Some b) (Some c) entry is = ap (λ (one : Entry). Some one.key) (same_Some _ entry is)

-- ---- the rows of the readers before

-- whether a key is among listed ones and one more
listed_more : (key other : List ℕ) (reader : Reader) (readers : List (List ℕ × Reader))
    → is_listed key (readers ++ (other, reader) ∷ []) ≡ cond (same_key key other) true (is_listed key readers)
listed_more key other reader [] = by (same_key key other)
  where
    by : (b : Bool) → is_some (cond b (Some reader) None) ≡ cond b true false
    by true = refl
    by false = refl
listed_more key other reader (entry ∷ readers) =
    by (same_key key entry.0) (same_key key other) _ _ (listed_more key other reader readers)
  where
    by : (b c : Bool) (after before : Option Reader) → is_some after ≡ cond c true (is_some before)
        → is_some (cond b (Some entry.1) after) ≡ cond c true (is_some (cond b (Some entry.1) before))
    by true true after before e = refl
    by true false after before e = refl
    by false c after before e = e

-- the digests of listed tokens and of one more
digests_more : (token : List ℕ) (reader : Reader) (readers : List (List ℕ × Reader))
    → by_their_digests (readers ++ (token, reader) ∷ []) ≡ by_their_digests readers ++ (sha256 token, reader) ∷ []
digests_more token reader [] = refl
digests_more token reader (entry ∷ readers) = ap (λ rest. (sha256 entry.0, entry.1) ∷ rest) (digests_more token reader readers)

-- the rows have the keys that are listed
abbrev Have : Rows → List (List ℕ × Reader) → Type 0
Have rows readers = (key : List ℕ) → is_some (map.get rows key) ≡ is_listed key readers

none_had : Have map.empty []
none_had key = ap is_some (map.get-empty (slice_cmp nat_cmp) key)

one_had : (rows : Rows) (readers : List (List ℕ × Reader)) (key : List ℕ) (reader : Reader) (n : ℕ) → Have rows readers
    → Have (map.insert rows key n) (readers ++ (key, reader) ∷ [])
one_had rows readers key reader n have = λ other.
    contains_set rows key n other ∙ ap (cond (same_key other key) true) (have other) ∙ sym (listed_more other key reader readers)

-- what is known of the readers before
pub record AreKnown (before : Listed) (known : KnownReaders) : Type 0 where
  pub by_token : Have known.by_token before.by_token
  pub by_digest : Have known.by_digest before.by_digest
  pub of_tokens : Have known.of_tokens (by_their_digests before.by_token)

pub none_known : AreKnown none_listed nobody_known
none_known = record { by_token = none_had; by_digest = none_had; of_tokens = none_had }

one_of_two : (one other : Option ℕ) → is_some (option_or one other) ≡ (is_some one || is_some other)
one_of_two None other = refl
one_of_two (Some n) other = refl

-- a key comes again where a row has it
pub comes_known : (before : Listed) (known : KnownReaders) (key : Key) → AreKnown before known
    → is_some (known_as known key) ≡ comes_again before key
comes_known before known (Token token) are =
    one_of_two (map.get known.by_token token) (map.get known.by_digest (sha256 token))
    ∙ (λ i. are.by_token token i || are.by_digest (sha256 token) i)
comes_known before known (Digest digest) are =
    one_of_two (map.get known.by_digest digest) (map.get known.of_tokens digest)
    ∙ (λ i. are.by_digest digest i || are.of_tokens digest i)

pub one_more : (before : Listed) (known : KnownReaders) (key : Key) (reader : Reader) (n : ℕ) → AreKnown before known
    → AreKnown (listed_with before key reader) (known_with known key n)
one_more before known (Token token) reader n are = record {
  by_token = one_had known.by_token before.by_token token reader n are.by_token;
  by_digest = are.by_digest;
  of_tokens = subst (Have (map.insert known.of_tokens (sha256 token) n)) (sym (digests_more token reader before.by_token))
      (one_had known.of_tokens (by_their_digests before.by_token) (sha256 token) reader n are.of_tokens);
}
one_more before known (Digest digest) reader n are = record {
  by_token = are.by_token;
  by_digest = one_had known.by_digest before.by_digest digest reader n are.by_digest;
  of_tokens = are.of_tokens;
}

-- ---- readers that are taken

-- the rows behind one of an entry are taken, where they are fresh
abbrev MoreAreTaken : Listed → ℕ → KnownReaders → ℕ → Items → Type 0
MoreAreTaken before m known n rest =
    (entry : Entry) → AreKnown (listed_with before entry.key entry.reader) (known_with known entry.key n) → each is_reader rest ≡ true
    → is_ok (readers_from (listed_with before entry.key entry.reader) (m + 1) (entries_in rest))
    ≡ are_fresh (known_with known entry.key n) (n + 1) rest

pub fresh_are_taken : (before : Listed) (m : ℕ) (known : KnownReaders) (n : ℕ) (rows : Items) → AreKnown before known
    → each is_reader rows ≡ true → is_ok (readers_from before m (entries_in rows)) ≡ are_fresh known n rows
fresh_are_taken before m known n no_items are all = refl
fresh_are_taken before m known n (item row rest) are all =
    by (λ entry. fresh_are_taken (listed_with before entry.key entry.reader) (m + 1) (known_with known entry.key n) (n + 1) rest)
    (entry_of row)
    refl
  where
    by_key : (entry : Entry) (b : Bool) → MoreAreTaken before m known n rest → comes_again before entry.key ≡ b
        → each is_reader rest ≡ true
        → is_ok (if b then Err (Twice m) else readers_from (listed_with before entry.key entry.reader) (m + 1) (entries_in rest))
        ≡ (not b && are_fresh (known_with known entry.key n) (n + 1) rest)
    by_key entry true more is all = refl
    by_key entry false more is all = more entry (one_more before known entry.key entry.reader n are) all

    by : MoreAreTaken before m known n rest → (entry : Option Entry) → entry_of row ≡ entry
        → is_ok (readers_from before m (kept entry (entries_in rest)))
        ≡ (not (is_some (known_at known (key_in row))) && are_fresh (with_reader known (key_in row) n) (n + 1) rest)
    by more None is = absurd (clash (is_some (entry_of row)) (and_first _ _ all) (ap is_some is))
    by more (Some entry) is =
        subst (λ key. is_ok (readers_from before m (entry ∷ entries_in rest))
        ≡ (not (is_some (known_at known key)) && are_fresh (with_reader known key n) (n + 1) rest))
        (sym (key_is (key_in row) (owner_at (get (codes "owner") row)) (groups_at (get (codes "groups") row)) entry is))
        (by_key entry (comes_again before entry.key) more refl (and_second _ _ all)
        ∙ ap (λ b. not b && are_fresh (known_with known entry.key n) (n + 1) rest) (sym (comes_known before known entry.key are)))

pub readers_taken : (rows : Items) → is_ok (readers_of_entries (entries_from [] 1 rows))
    ≡ (each is_reader rows && are_fresh nobody_known 1 rows)
readers_taken rows = by (each is_reader rows) refl
  where
    refused : (entries : Result (List Entry) ReadersError) → is_ok entries ≡ false → is_ok (readers_of_entries entries) ≡ false
    refused (Ok entries) is = cc
    refused (Err e) is = refl

    by : (b : Bool) → each is_reader rows ≡ b → is_ok (readers_of_entries (entries_from [] 1 rows)) ≡ (b && are_fresh nobody_known 1 rows)
    by true is = ap (λ entries. is_ok (readers_of_entries entries)) (entries_are [] 1 rows is)
        ∙ fresh_are_taken none_listed 1 nobody_known 1 rows none_known is
    by false is = refused (entries_from [] 1 rows) (entries_taken [] 1 rows ∙ is)
