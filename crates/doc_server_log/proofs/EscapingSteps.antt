-- Texts inside strings.
use Rattle.std.proofs.Common.{◌≡◌, ◌≢◌, ℕ, ◌+◌, ◌<◌, ◌≤◌, Bool, true, false, ◌||◌, ◌==◌, List, [], ◌∷◌, ◌++◌, length, take, get_or, codes, refl, sym, ap, ◌∙◌, arith}
use Rattle.std.specs.Prelude.{nat_le}
use Rattle.std.proofs.lemmas.Bool.{cond-true, cond-false, le-leb, lt-leb}
use Rattle.std.proofs.lemmas.Bool.Decides.{nat_tests}
use Rattle.std.proofs.lemmas.List.{append-nil, append_assoc, take_all, take_more}
use Rattle.std.proofs.lemmas.List.Concat.{flat_map-append}
use Rattle.std.proofs.lemmas.List.Sums.{AllPass-from_list_all}
use Rattle.percent_encoding.specs.AsciiSet.{should_percent_encode}
use Rattle.percent_encoding.specs.Percent.{encode_byte, percent_encode, percent_encode_byte}
use Rattle.percent_encoding.specs.declared.ascii_set.AsciiSet.{AsciiSet}
use Rattle.percent_encoding.proofs.PercentLemmas.{percent_encode-append}
use Rattle.doc_page_parts.proofs.BufferSteps.{both_written}
use Rattle.doc_server_log.specs.JsonLines.{escaped, escaped_byte, json_string, member}
use Rattle.doc_server_log.specs.RequestLines.{before_query, is_rooted, shown_path, shown_target}
use Rattle.doc_server_log.specs.declared.request_line.TheConstants.{HIDDEN}
use Rattle.doc_server_log.proofs.PlainSteps.{Plain, hidden_plain, is_plain, nothing_escaped}

pub escaped-append : (a b : List ℕ) → escaped (a ++ b) ≡ escaped a ++ escaped b
unfolding escaped
escaped-append a b = flat_map-append escaped_byte a b

-- ---- a byte of a path

pub hidden_byte : (b : ℕ) → should_percent_encode HIDDEN b ≡ true → percent_encode_byte b ≡ escaped (encode_byte HIDDEN b)
hidden_byte b hidden = sym (ap escaped (cond-true _ _ _ hidden) ∙ nothing_escaped (percent_encode_byte b) (hidden_plain b))

pub kept_byte : (b : ℕ) → should_percent_encode HIDDEN b ≡ false → b ≢ 34 → b ≢ 92 → b ∷ [] ≡ escaped (encode_byte HIDDEN b)
unfolding escaped
kept_byte b kept no_quote no_backslash =
    let neither : ((b == 34) || (b == 92)) ≡ false = grind (arith, nat_tests) in
    sym (ap escaped (cond-false _ _ _ kept) ∙ append-nil (escaped_byte b) ∙ cond-false _ _ _ neither)

pub quote : 92 ∷ 34 ∷ [] ≡ escaped (encode_byte HIDDEN 34)
unfolding escaped should_percent_encode
quote = refl

pub backslash : 92 ∷ 92 ∷ [] ≡ escaped (encode_byte HIDDEN 92)
unfolding escaped should_percent_encode
backslash = refl

-- ---- a path

pub one_more : (set : AsciiSet) (bytes : List ℕ) (i : ℕ) → i < length bytes
    → escaped (percent_encode set (take (i + 1) bytes))
    ≡ escaped (percent_encode set (take i bytes)) ++ escaped (encode_byte set (get_or bytes i 0))
unfolding percent_encode
one_more set bytes i within =
    ap (λ text. escaped (percent_encode set text)) (take_more bytes i 0 within)
    ∙ ap escaped (percent_encode-append set (take i bytes) (get_or bytes i 0 ∷ []))
    ∙ escaped-append (percent_encode set (take i bytes)) (percent_encode set (get_or bytes i 0 ∷ []))
    ∙ ap (λ text. escaped (percent_encode set (take i bytes)) ++ escaped text) (append-nil (encode_byte set (get_or bytes i 0)))

-- a path, and that it was cut
pub path_and_end : (set : AsciiSet) (old new last front end : List ℕ) → last ≡ old ++ escaped (percent_encode set front) → new ≡ last ++ end
    → escaped end ≡ end → new ≡ old ++ escaped (percent_encode set front ++ end)
path_and_end set old new last front end written ended plain =
    ended ∙ ap (λ text. text ++ end) written ∙ append_assoc old (escaped (percent_encode set front)) end
    ∙ ap (λ text. old ++ (escaped (percent_encode set front) ++ text)) (sym plain)
    ∙ ap (λ text. old ++ text) (sym (escaped-append (percent_encode set front) end))

-- nothing was written yet
pub none_yet : (old bytes : List ℕ) → old ≡ old ++ escaped (percent_encode HIDDEN (take 0 bytes))
unfolding escaped percent_encode
none_yet old bytes = sym (append-nil old)

-- one byte more was written
pub grows : (old last new bytes : List ℕ) (i : ℕ) → i < length bytes → last ≡ old ++ escaped (percent_encode HIDDEN (take i bytes))
    → new ≡ last ++ escaped (encode_byte HIDDEN (get_or bytes i 0)) → new ≡ old ++ escaped (percent_encode HIDDEN (take (i + 1) bytes))
grows old last new bytes i within so_far more =
    more ∙ ap (λ text. text ++ escaped (encode_byte HIDDEN (get_or bytes i 0))) so_far
    ∙ append_assoc old (escaped (percent_encode HIDDEN (take i bytes))) (escaped (encode_byte HIDDEN (get_or bytes i 0)))
    ∙ ap (λ text. old ++ text) (sym (one_more HIDDEN bytes i within))

-- all bytes of the front were written
front_written : (old last path bytes : List ℕ) (i : ℕ) → bytes ≡ take 1000 path → length bytes ≤ i
    → last ≡ old ++ escaped (percent_encode HIDDEN (take i bytes)) → last ≡ old ++ escaped (percent_encode HIDDEN (take 1000 path))
front_written old last path bytes i same all so_far =
    so_far ∙ ap (λ text. old ++ escaped (percent_encode HIDDEN text)) (take_all i bytes all ∙ same)

pub whole_path : (old last path bytes : List ℕ) (i : ℕ) → bytes ≡ take 1000 path → length bytes ≤ i
    → last ≡ old ++ escaped (percent_encode HIDDEN (take i bytes)) → length path ≤ 1000 → last ≡ old ++ escaped (shown_path path)
whole_path old last path bytes i same all so_far short =
    path_and_end HIDDEN old last last (take 1000 path) [] (front_written old last path bytes i same all so_far) (sym (append-nil last))
    (nothing_escaped [] (AllPass-from_list_all is_plain [] refl))
    ∙ ap (λ end. old ++ escaped (percent_encode HIDDEN (take 1000 path) ++ end))
    (sym (cond-true (nat_le (length path) 1000) [] (codes "...") (le-leb (length path) 1000 short)))

pub cut_path : (old last new path bytes : List ℕ) (i : ℕ) → bytes ≡ take 1000 path → length bytes ≤ i
    → last ≡ old ++ escaped (percent_encode HIDDEN (take i bytes)) → 1000 < length path → new ≡ last ++ codes "..."
    → new ≡ old ++ escaped (shown_path path)
cut_path old last new path bytes i same all so_far long ended =
    path_and_end HIDDEN old new last (take 1000 path) (codes "...") (front_written old last path bytes i same all so_far) ended
    (nothing_escaped (codes "...") (AllPass-from_list_all is_plain (codes "...") refl))
    ∙ ap (λ end. old ++ escaped (percent_encode HIDDEN (take 1000 path) ++ end))
    (sym (cond-false (nat_le (length path) 1000) [] (codes "...") (lt-leb (length path) 1000 long)))

-- ---- a target

pub rooted_target : (target path : List ℕ) (rooted : Bool) → path ≡ before_query target → rooted ≡ is_rooted path → rooted ≡ true
    → escaped (shown_path path) ≡ escaped (shown_target target)
rooted_target target path rooted same tested true_is =
    ap (λ p. escaped (shown_path p)) same
    ∙ ap escaped (sym (cond-true (is_rooted (before_query target)) (shown_path (before_query target)) (codes "-")
    (ap is_rooted (sym same) ∙ sym tested ∙ true_is)))

pub other_target : (target path : List ℕ) (rooted : Bool) → path ≡ before_query target → rooted ≡ is_rooted path → rooted ≡ false
    → codes "-" ≡ escaped (shown_target target)
other_target target path rooted same tested false_is =
    sym (nothing_escaped (codes "-") (AllPass-from_list_all is_plain (codes "-") refl))
    ∙ ap escaped (sym (cond-false (is_rooted (before_query target)) (shown_path (before_query target)) (codes "-")
    (ap is_rooted (sym same) ∙ sym tested ∙ false_is)))

-- ---- a string

-- a quote, a text in which nothing is escaped, and a quote were written
pub string_written : (old one two new text : List ℕ) → Plain text → one ≡ old ++ codes "\"" → two ≡ one ++ text → new ≡ two ++ codes "\""
    → new ≡ old ++ json_string text
string_written old one two new text plain first second third =
    both_written old (codes "\"" ++ text) (codes "\"") two new (both_written old (codes "\"") text one two first second) third
    ∙ ap (λ t. old ++ (codes "\"" ++ t ++ codes "\"")) (sym (nothing_escaped text plain))

-- method and path, as two members
both_members : (method target : List ℕ)
    → codes ",\"method\":\"" ++ method ++ codes "\",\"path\":\"" ++ escaped target ++ codes "\""
    ≡ member (codes "method") (codes "\"" ++ method ++ codes "\"") ++ member (codes "path") (json_string target)
both_members method target = ap (λ text. codes ",\"method\":\"" ++ text)
    (append_assoc (method ++ codes "\",\"path\":\"") (escaped target) (codes "\"")
    ∙ append_assoc method (codes "\",\"path\":\"") (escaped target ++ codes "\"")
    ∙ sym (append_assoc method (codes "\"") (codes ",\"path\":\"" ++ (escaped target ++ codes "\""))))

-- they were written
pub request_written : (old one two three four new method target : List ℕ) → Plain method → one ≡ old ++ codes ",\"method\":\""
    → two ≡ one ++ method → three ≡ two ++ codes "\",\"path\":\"" → four ≡ three ++ escaped target → new ≡ four ++ codes "\""
    → new ≡ old ++ (member (codes "method") (json_string method) ++ member (codes "path") (json_string target))
request_written old one two three four new method target plain first second third fourth fifth =
    both_written old (codes ",\"method\":\"" ++ method ++ codes "\",\"path\":\"" ++ escaped target) (codes "\"") four new
    (both_written old (codes ",\"method\":\"" ++ method ++ codes "\",\"path\":\"") (escaped target) three four
    (both_written old (codes ",\"method\":\"" ++ method) (codes "\",\"path\":\"") two three
    (both_written old (codes ",\"method\":\"") method one two first second) third)
    fourth)
    fifth
    ∙ ap (λ text. old ++ text) (both_members method target)
    ∙ ap (λ text. old ++ (member (codes "method") (codes "\"" ++ text ++ codes "\"") ++ member (codes "path") (json_string target)))
    (sym (nothing_escaped method plain))

-- ---- a line

pub line_written : (old one two three four five new time asking request reply : List ℕ) → one ≡ old ++ codes "{\"time\":"
    → two ≡ one ++ time → three ≡ two ++ asking → four ≡ three ++ request → five ≡ four ++ reply → new ≡ five ++ codes "}\n"
    → new ≡ old ++ (codes "{\"time\":" ++ time ++ asking ++ request ++ reply ++ codes "}\n")
line_written old one two three four five new time asking request reply first second third fourth fifth sixth =
    both_written old (codes "{\"time\":" ++ time ++ asking ++ request ++ reply) (codes "}\n") five new
    (both_written old (codes "{\"time\":" ++ time ++ asking ++ request) reply four five
    (both_written old (codes "{\"time\":" ++ time ++ asking) request three four
    (both_written old (codes "{\"time\":" ++ time) asking two three
    (both_written old (codes "{\"time\":") time one two first second) third)
    fourth)
    fifth)
    sixth
