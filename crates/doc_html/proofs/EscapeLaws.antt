-- What a byte is written as, by whether it is written as a reference.
use Rattle.std.proofs.Common.{◌≡◌, ℕ, ◌<◌, Bool, true, false, List, [], ◌∷◌, refl, arith, ap, ◌∙◌, sym, ◌++◌}
use Rattle.std.specs.Prelude.{◌==◌, ◌||◌, codes, not, nat_eq, get_or, ◌&&◌, flat_map, if◌then◌else◌}
use Rattle.std.specs.List.{list_all}
use Rattle.std.proofs.lemmas.Bool.{agree_below, agree_below_at, and_parts, ne_eqb}
use Rattle.std.proofs.lemmas.Bool.Decides.{nat_tests}
use Rattle.doc_page_parts.specs.Escaping.{escaped, escaped_byte}
use Rattle.percent_encoding.specs.Percent.{percent_encode_byte}
use Rattle.doc_page_encoding.specs.Encoding.{destination, is_kept}
use Rattle.doc_page_encoding.specs.Laws.{destination_byte}
use Rattle.doc_page_encoding.proofs.DestinationLaws.{destinations_by_bytes}
use Rattle.doc_html.specs.EscapeSteps.{is_escaped, stays}

pub kept_in_table : (table : List ℕ) (b : ℕ) → b < 256 → agree_below (λ k. not (nat_eq (get_or table k 0) 124)) stays 256 ≡ true
    → not (nat_eq (get_or table b 0) 124) ≡ stays b
kept_in_table table b less h = agree_below_at (λ k. not (nat_eq (get_or table k 0) 124)) stays 256 b h less

pub as_in_table : (table : List ℕ) (b : ℕ) → b < 256 → agree_below (λ k. not (nat_eq (get_or table k 0) 46)) is_escaped 256 ≡ true
    → not (nat_eq (get_or table b 0) 46) ≡ is_escaped b
as_in_table table b less h = agree_below_at (λ k. not (nat_eq (get_or table k 0) 46)) is_escaped 256 b h less

pub escaped_is_ascii : (b : ℕ) → is_escaped b ≡ true → b < 128
escaped_is_ascii b h = grind (arith, nat_tests)

pub written_as_it_is : (b : ℕ) → is_escaped b ≡ false → b ∷ [] ≡ escaped_byte b
written_as_it_is b h = at (b == 38) (b == 60) (b == 62) (b == 34) h
  where
    at : (p q r s : Bool) → (p || (q || (r || s))) ≡ false → b ∷ []
        ≡ (if p then codes "&amp;" else (if q then codes "&lt;" else (if r then codes "&gt;" else (if s then codes "&quot;" else b ∷ []))))
    at false false false false e = refl
    at true q r s e = cc
    at false true r s e = cc
    at false false true s e = cc
    at false false false true e = cc

pub last_is_quote : (b : ℕ) → is_escaped b ≡ true → (b ≡ 38 → ⊥) → (b ≡ 60 → ⊥) → (b ≡ 62 → ⊥) → codes "&quot;" ≡ escaped_byte b
last_is_quote b h e f g = at (b == 38) (b == 60) (b == 62) (b == 34) h (ne_eqb b 38 e) (ne_eqb b 60 f) (ne_eqb b 62 g)
  where
    at : (p q r s : Bool) → (p || (q || (r || s))) ≡ true → p ≡ false → q ≡ false → r ≡ false → codes "&quot;"
        ≡ (if p then codes "&amp;" else (if q then codes "&lt;" else (if r then codes "&gt;" else (if s then codes "&quot;" else b ∷ []))))
    at false false false true e f g k = refl
    at false false false false e f g k = cc
    at true q r s e f g k = cc
    at false true r s e f g k = cc
    at false false true s e f g k = cc

-- ---- destinations

staying_byte : (b : ℕ) → stays b ≡ true → destination_byte b ≡ b ∷ []
staying_byte b h = at (b == 38) (is_kept b) h
  where
    at : (reference kept : Bool) → (not reference && kept) ≡ true
        → (if reference then codes "&amp;" else (if kept then b ∷ [] else percent_encode_byte b)) ≡ b ∷ []
    at false true e = refl
    at false false e = cc
    at true kept e = cc

staying_bytes : (dest : List ℕ) → list_all stays dest ≡ true → flat_map destination_byte dest ≡ dest
staying_bytes [] h = refl
staying_bytes (b ∷ dest) h =
    let here = and_parts (stays b) (list_all stays dest) h in
    ap (λ front. front ++ flat_map destination_byte dest) (staying_byte b here.0) ∙ ap (λ more. b ∷ more) (staying_bytes dest here.1)

pub destination_stays : (copy dest : List ℕ) → copy ≡ dest → list_all stays dest ≡ true → copy ≡ escaped (destination dest)
destination_stays copy dest e h = e ∙ sym (destinations_by_bytes dest ∙ staying_bytes dest h)
