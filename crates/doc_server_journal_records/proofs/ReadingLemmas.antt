-- How a reading goes on, and how it ends.
use Rattle.std.proofs.Common.{◌≡◌, ℕ, ◌+◌, ◌-◌, ◌≤◌, List, [], ◌∷◌, ◌++◌, length, refl, sym, ap, subst, ◌∙◌, arith, length-append, append_assoc}
use Rattle.doc_server_journal_records.specs.Records.{Entry, IsIdentity, open_gate, header, seed, digest_behind, record_bytes, chain, last_digest, texts_of, front_of}
use Rattle.doc_server_journal_records.specs.Readings.{IsOpenRecord, HasNoOpenRecord, IsEnd, AreChain, AreRead, AreRecords, IsDamaged, IsFound, IsNext, last_size}
use Rattle.doc_server_journal_records.specs.declared.next.Front.{Front}
use Rattle.doc_server_journal_records.specs.declared.next.Next.{Next}
use Rattle.doc_server_journal_records.specs.declared.next.Next.TheVariants as nexts
use Rattle.doc_server_journal_records.proofs.ChainLemmas.{chain_push, last_push, entries_push, texts_push, last_size_push}
use Rattle.doc_server_journal_records.proofs.FrontLemmas.{long_enough}

pub begins : (seed bytes : List ℕ) → AreRead seed bytes [] seed bytes
begins seed bytes =
    record { entries = []; are = record { are_entries = tt; split = refl }; texts_are = refl; digest_is = refl }

-- one open record more
pub one_more : (seed bytes : List ℕ) (entries : List Entry) (digest : List ℕ) (entry : Entry) (rest behind : List ℕ)
    → AreChain seed bytes entries rest → digest ≡ last_digest seed entries → IsOpenRecord digest entry rest behind
    → AreChain seed bytes (entries ++ entry ∷ []) behind
one_more seed bytes entries digest entry rest behind are digest_is (inner, is_open, is) = record {
  are_entries = entries_push entries entry are.are_entries is.is_entry;
  split = are.split
      ∙ ap (λ l. chain seed entries ++ l) (is_open ∙ ap (λ (l : List ℕ). open_gate ∷ l) (is.split
      ∙ ap (λ d. record_bytes d entry ++ behind) digest_is))
      ∙ sym (chain_push seed entries entry behind);
}

pub going_on : (seed bytes : List ℕ) (texts news : List (List ℕ)) (digest next text rest behind : List ℕ) (entry : Entry)
    → AreRead seed bytes texts digest rest → IsOpenRecord digest entry rest behind → text ≡ entry.text → next ≡ digest_behind digest entry
    → news ≡ texts ++ text ∷ [] → AreRead seed bytes news next behind
going_on seed bytes texts news digest next text rest behind entry knows found text_is next_is news_is = record {
  entries = knows.entries ++ entry ∷ [];
  are = one_more seed bytes knows.entries digest entry rest behind knows.are knows.digest_is found;
  texts_are = news_is ∙ ap (λ t. texts ++ t ∷ []) text_is ∙ ap (λ ts. ts ++ entry.text ∷ []) knows.texts_are
      ∙ sym (texts_push knows.entries entry);
  digest_is = next_is ∙ ap (λ d. digest_behind d entry) knows.digest_is ∙ sym (last_push seed knows.entries entry);
}

-- how many bytes a record takes with its gate
pub its_size : (digest : List ℕ) (entry : Entry) (rest behind : List ℕ) → IsOpenRecord digest entry rest behind
    → length rest ≡ length behind + (length entry.text + 86)
its_size digest entry rest behind (inner, is_open, is) = omega (arith, ap length is_open, long_enough digest inner entry behind is)

pub counts_on : {X : Type 0} (texts news : List X) (text : X) (rest behind : List ℕ) (n size : ℕ) → length texts + length rest ≤ n
    → news ≡ texts ++ text ∷ [] → length rest ≡ length behind + (size + 86) → length news + length behind ≤ n
counts_on texts news text rest behind n size count news_is smaller =
    omega (arith, count, smaller, ap length news_is, length-append texts (text ∷ []))

pub last_is : (texts news : List (List ℕ)) (text : List ℕ) (n : ℕ) → news ≡ texts ++ text ∷ [] → n ≡ length text + 86 → n ≡ last_size news
last_is texts news text n news_is size = size ∙ sym (last_size_push texts text) ∙ ap last_size (sym news_is)

-- behind a header
module _ (bytes header_bytes behind identity seed_is : List ℕ) (identity_is : IsIdentity identity) (headed : header_bytes ≡ header identity)
    (split : bytes ≡ header_bytes ++ behind) (seeded : seed_is ≡ seed identity) (texts : List (List ℕ)) (digest rest : List ℕ)
    (knows : AreRead seed_is behind texts digest rest) where
  records : AreRecords bytes identity knows.entries rest
  records = record {
    is_identity = identity_is;
    are_entries = knows.are.are_entries;
    split = split ∙ ap (λ h. h ++ behind) headed
        ∙ ap (λ l. header identity ++ l) (knows.are.split ∙ ap (λ s. chain s knows.entries ++ rest) seeded)
        ∙ sym (append_assoc (header identity) (chain (seed identity) knows.entries) rest);
  }

  last_digest_is : digest ≡ last_digest (seed identity) knows.entries
  last_digest_is = knows.digest_is ∙ ap (λ s. last_digest s knows.entries) seeded

  -- a reading that comes to an end
  pub found : (end last : ℕ) → IsEnd rest → end ≡ length bytes - length rest → last ≡ last_size texts
      → IsFound bytes (record { texts = texts; end = end; last = last; digest = digest })
  found end last (tail, is, tail_is) end_is size = record {
    identity = identity;
    entries = knows.entries;
    tail = tail;
    records = subst (λ r. AreRecords bytes identity knows.entries r) is records;
    is_tail = tail_is;
    texts = knows.texts_are;
    digest = last_digest_is;
    end = omega (arith, end_is, ap length records.split, length-append (front_of identity knows.entries) rest);
    last = size;
  }

  -- a reading that comes to none
  pub damaged : HasNoOpenRecord digest rest → (IsEnd rest → ⊥) → IsDamaged bytes (length texts + 1)
  damaged not_open no_end = record {
    identity = identity;
    entries = knows.entries;
    rest = rest;
    number = ap (λ (ts : List (List ℕ)). length ts + 1) knows.texts_are ∙ counted knows.entries;
    records = records;
    not_open = subst (λ d. HasNoOpenRecord d rest) last_digest_is not_open;
    no_end = no_end;
  }
    where
      counted : (entries : List Entry) → length (texts_of entries) + 1 ≡ length entries + 1
      counted [] = refl
      counted (e ∷ entries) = omega (arith, counted entries)

-- where no record stands
pub none_whole : (before bytes : List ℕ) (next : Next) → IsNext before bytes next → ((front : Front) → next ≡ nexts.Whole front → ⊥)
    → HasNoOpenRecord before bytes
none_whole before bytes (nexts.Whole front) is other = absurd (other front refl)
none_whole before bytes nexts.NotYet is other = is.0
none_whole before bytes nexts.Damaged is other = is.0
