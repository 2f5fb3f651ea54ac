-- Steps of the listing of readers.
use Rattle.std.proofs.Common.{◌≡◌, ℕ, ◌+◌, ◌<◌, ◌^◌, List, [], ◌∷◌, ◌++◌, length, Bool, true, false, Bor, cond, ◌||◌, is_some, refl, sym, ap, ◌∙◌}
use Rattle.std.proofs.Common.{arith}
use Rattle.std.specs.Prelude.{Option, Some, None, option_copied, Ok, Err, ⊤, if◌then◌else◌}
use Rattle.std.specs.FinMap as map
use Rattle.std.specs.Cmp.Lexicographic.{slice_cmp}
use Rattle.std.specs.Ordering.{nat_cmp, eq_by_cmp}
use Rattle.std.proofs.lemmas.Bool.{false≢true, true≢false}
use Rattle.std.proofs.lemmas.Cmp.{nat_list_cmp_total}
use Rattle.std.proofs.lemmas.Map.Lookups.{exact_bytes}
use Rattle.sha2.specs.Sha256.{sha256}
use Rattle.doc_store_readers.specs.declared.entries.Entry.{Entry}
use Rattle.doc_store_readers.specs.declared.keys.Key.TheVariants.{Token, Digest}
use Rattle.doc_store_readers.specs.declared.listing.Listing.{Listing}
use Rattle.doc_store_readers.specs.declared.reader.Reader.{Reader}
use Rattle.doc_store_readers.specs.declared.readers.ReadersError.TheVariants.{Twice}
use Rattle.doc_store_readers.specs.Listings.{IsListing}
use Rattle.doc_store_readers.specs.Maps.{TextMap}
use Rattle.doc_store_readers.specs.Readers.{Listed, ReaderTable, by_their_digests, comes_again, find_in, first_of, is_listed, listed_with}
use Rattle.doc_store_readers.specs.Readers.{no_readers, none_listed, readers_from, set_reader, table_listed, with_reader, without_reader}
use Rattle.doc_store_readers.specs.declared.readers.Set.TheVariants.{Added, Replaced}
use Rattle.doc_page_parts.specs.Tokens.{is_token}
use Rattle.doc_page_parts.proofs.Options.{is_some_false}

pub is_some-copied : {X : Type 0} (o : Option (Bor X)) → is_some (option_copied o) ≡ is_some o
is_some-copied None = refl
is_some-copied (Some x) = refl

-- a key is listed where the map of the listed has it
pub is_listed_in : (readers : List (List ℕ × Reader)) (key : List ℕ)
    → is_some (map.get (map.from_entries {R = slice_cmp nat_cmp} readers) key) ≡ is_listed key readers
is_listed_in readers key = ap is_some (map.get-from_entries nat_list_cmp_total readers key)

-- one of two is there
pub is_some-first_of : (one other : Option Reader) → is_some (first_of one other) ≡ is_some one || is_some other
is_some-first_of None other = refl
is_some-first_of (Some reader) other = refl

-- a token comes again where the table so far has a reader of it
pub token_listed : (before : Listed) (listing : Listing) (token : List ℕ) → IsListing before listing
    → is_some (find_in listing.readers token) ≡ comes_again before (Token token)
unfolding find_in
token_listed before listing token is =
    ap (λ (table : ReaderTable). is_some (first_of (map.get table.by_token token) (map.get table.by_digest (sha256 token)))) is.readers
    ∙ is_some-first_of (map.get (map.from_entries {R = slice_cmp nat_cmp} before.by_token) token) (map.get (map.from_entries {R = slice_cmp
    nat_cmp} before.by_digest) (sha256 token))
    ∙ (λ i. is_listed_in before.by_token token i || is_listed_in before.by_digest (sha256 token) i)

-- a digest comes again where the table so far has it, or the digests of the tokens do
pub digest_listed : (before : Listed) (listing : Listing) (digest : List ℕ) → IsListing before listing
    → is_some (map.get listing.readers.by_digest digest) || map.contains_key listing.of_tokens digest
    ≡ comes_again before (Digest digest)
digest_listed before listing digest is =
    λ i. (ap (λ (table : ReaderTable). is_some (map.get table.by_digest digest)) is.readers ∙ is_listed_in before.by_digest digest) i
    || is.of_tokens digest i

pub first_holds : (a b : Bool) → a ≡ true → a ≡ a || b
first_holds true b e = refl
first_holds false b e = absurd (false≢true e)

pub second_decides : (a b : Bool) → a ≡ false → b ≡ a || b
second_decides true b e = absurd (true≢false e)
second_decides false b e = refl

-- nothing is listed yet
pub none_is_listed : (listing : Listing) → listing.readers ≡ table_listed none_listed → listing.of_tokens ≡ map.empty
    → IsListing none_listed listing
none_is_listed listing readers of_tokens = record {
  readers = readers;
  of_tokens = λ digest. ap (λ m. map.contains_key m digest) of_tokens ∙ ap is_some (map.get-empty (slice_cmp nat_cmp) digest);
}

-- whether a key is among listed ones and one more
listed_more : (key other : List ℕ) (reader : Reader) (readers : List (List ℕ × Reader))
    → is_listed key (readers ++ (other, reader) ∷ []) ≡ cond (eq_by_cmp (slice_cmp nat_cmp) key other) true (is_listed key readers)
listed_more key other reader [] = by (eq_by_cmp (slice_cmp nat_cmp) key other)
  where
    by : (b : Bool) → is_some (cond b (Some reader) None) ≡ cond b true false
    by true = refl
    by false = refl
listed_more key other reader (entry ∷ readers) =
    by (eq_by_cmp (slice_cmp nat_cmp) key entry.0) (eq_by_cmp (slice_cmp nat_cmp) key other) _ _ (listed_more key other reader readers)
  where
    by : (b c : Bool) (after before : Option Reader) → is_some after ≡ cond c true (is_some before)
        → is_some (cond b (Some entry.1) after) ≡ cond c true (is_some (cond b (Some entry.1) before))
    by true true after before e = refl
    by true false after before e = refl
    by false c after before e = e

-- the digests of listed tokens and of one more
digests_more : (token : List ℕ) (reader : Reader) (readers : List (List ℕ × Reader))
    → by_their_digests (readers ++ (token, reader) ∷ []) ≡ by_their_digests readers ++ (sha256 token, reader) ∷ []
digests_more token reader [] = refl
digests_more token reader (entry ∷ readers) = ap (λ rest. (sha256 entry.0, entry.1) ∷ rest) (digests_more token reader readers)

contains_more : (m : TextMap ⊤) (key other : List ℕ) → map.contains_key (map.insert m other tt) key
    ≡ cond (eq_by_cmp (slice_cmp nat_cmp) key other) true (map.contains_key m key)
contains_more m key other =
    ap is_some (map.get-insert nat_list_cmp_total m other tt key) ∙ by (eq_by_cmp (slice_cmp nat_cmp) key other) (map.get m key)
  where
    by : (b : Bool) (o : Option ⊤) → is_some (cond b (Some tt) o) ≡ cond b true (is_some o)
    by true o = refl
    by false o = refl

both_false : (a b : Bool) → a || b ≡ false → a ≡ false
both_false true b e = e
both_false false b e = refl

-- one more reader whose key is new: the table has it, and the digests that of its token
pub token_added : (before : Listed) (old new : Listing) (token : List ℕ) (reader : Reader) → IsListing before old
    → comes_again before (Token token) ≡ false
    → new ≡ record {
      readers = record old.readers { by_token = map.insert old.readers.by_token token reader };
      of_tokens = map.insert old.of_tokens (sha256 token) tt;
    }
    → IsListing (listed_with before (Token token) reader) new
token_added before old new token reader is fresh e = record {
  readers = ap (λ (l : Listing). l.readers) e
      ∙ ap (λ (table : ReaderTable). record table { by_token = map.insert table.by_token token reader }) is.readers
      ∙ ap (λ m. record no_readers { by_token = m; by_digest = map.from_entries before.by_digest }) (sym (map.from_entries_push
      nat_list_cmp_total exact_bytes before.by_token token reader
      (is_some_false _ (both_false _ (is_listed (sha256 token) before.by_digest) fresh))));
  of_tokens = λ digest.
      ap (λ (l : Listing). map.contains_key l.of_tokens digest) e ∙ contains_more old.of_tokens digest (sha256 token)
      ∙ ap (cond (eq_by_cmp (slice_cmp nat_cmp) digest (sha256 token)) true) (is.of_tokens digest)
      ∙ sym (listed_more digest (sha256 token) reader (by_their_digests before.by_token))
      ∙ ap (is_listed digest) (sym (digests_more token reader before.by_token));
}

pub digest_added : (before : Listed) (old new : Listing) (digest : List ℕ) (reader : Reader) → IsListing before old
    → comes_again before (Digest digest) ≡ false
    → new.readers ≡ record old.readers { by_digest = map.insert old.readers.by_digest digest reader } → new.of_tokens ≡ old.of_tokens
    → IsListing (listed_with before (Digest digest) reader) new
digest_added before old new digest reader is fresh e same = record {
  readers = e ∙ ap (λ (table : ReaderTable). record table { by_digest = map.insert table.by_digest digest reader }) is.readers
      ∙ ap (λ m. record no_readers { by_token = map.from_entries before.by_token; by_digest = m }) (sym (map.from_entries_push
      nat_list_cmp_total exact_bytes before.by_digest digest reader
      (is_some_false _ (both_false _ (is_listed digest (by_their_digests before.by_token)) fresh))));
  of_tokens = λ other. ap (λ m. map.contains_key m other) same ∙ is.of_tokens other;
}

-- the reader of a token was taken out of both maps
pub both_removed : (old middle new : ReaderTable) (token digest : List ℕ) → middle ≡ record old { by_token = map.remove old.by_token token }
    → digest ≡ sha256 token → new ≡ record middle { by_digest = map.remove middle.by_digest digest } → new ≡ without_reader old token
unfolding without_reader
both_removed old middle new token digest first is second =
    second ∙ (λ i. record (first i) { by_digest = map.remove (first i).by_digest (is i) })

-- the reader of a token was set
pub was_set : (old middle new : ReaderTable) (token key digest : List ℕ) (reader copy : Reader) (stands : Bool) → is_token token ≡ true
    → stands ≡ is_some (find_in old token) → key ≡ token → copy ≡ reader
    → middle ≡ record old { by_token = map.insert old.by_token key copy }
    → digest ≡ sha256 token → new ≡ record middle { by_digest = map.remove middle.by_digest digest }
    → set_reader old token reader ≡ (new, Ok (if stands then Replaced else Added))
unfolding with_reader
was_set old middle new token key digest reader copy stands good found same_key same_reader first is second =
    let table : new ≡ with_reader old token reader =
    second ∙ (λ i. record (first i) { by_digest = map.remove (first i).by_digest (is i) })
    ∙ (λ i. record old {
      by_token = map.insert old.by_token (same_key i) (same_reader i);
      by_digest = map.remove old.by_digest
          (sha256 token);
    }) in
    rw good (λ i. (sym table i, Ok (if sym found i then Replaced else Added)))

-- the readers so far are listed; the first of the entries that are left is this one
module _ (all items rest : List Entry) (before : Listed) (n : ℕ) (entry : Entry)
    (so_far : readers_from none_listed 1 all ≡ readers_from before (n + 1) items) (step : items ≡ entry ∷ rest) where
  -- one who is listed already comes again
  pub refused : comes_again before entry.key ≡ true → readers_from none_listed 1 all ≡ Err (Twice (n + 1))
  refused e = so_far ∙ ap (readers_from before (n + 1)) step ∙ rw e refl

  -- else the reader is one more
  pub one_added : (old new : Listing) → IsListing before old → comes_again before entry.key ≡ false
      → IsListing (listed_with before entry.key entry.reader) new → n + length items < 2 ^ 64
      → (after : Listed) × IsListing after new × (readers_from none_listed 1 all ≡ readers_from after (n + 1 + 1) rest)
      × (n + 1 + length rest < 2 ^ 64)
  one_added old new is e listed fits = (
    listed_with before entry.key entry.reader,
    listed,
    so_far ∙ ap (readers_from before (n + 1)) step ∙ rw e refl,
    omega (arith, ap length step),
  )
