-- Worked examples: the definitions on literal bodies and heads.
use Rattle.std.proofs.Common.{◌≡◌, ℕ, zero, suc, ◌&&◌, Bool, List, [], ◌∷◌, ◌++◌, true, false, codes, refl, take, replicate}
use Rattle.std.specs.Prelude.{Ok, Err}
use Rattle.doc_http_bodies.specs.declared.extent.Extent.TheVariants as extent
use Rattle.doc_http_bodies.specs.declared.fault.Fault.TheVariants.{Malformed, TooLarge, Unsupported}
use Rattle.doc_http_bodies.specs.declared.framing.Framing.TheVariants.{Sized, Chunked}
use Rattle.doc_http_bodies.specs.declared.reader.Reading.{Reading}
use Rattle.doc_http_bodies.specs.declared.reader.Reading.TheVariants.{More, Fault, Whole}
use Rattle.doc_http_bodies.specs.declared.size_line.SizeLine.TheVariants as line
use Rattle.doc_http_bodies.specs.declared.size_line.SizeLine.TheVariants.{Unfinished, Size}
use Rattle.doc_http_bodies.specs.Framings.{framing_of, body_limit}
use Rattle.doc_http_bodies.specs.Chunks.{size_line, extent_of, extent_from, data_of, extent_in, data_in}
use Rattle.doc_http_bodies.specs.Readings.{encoded_limit, reading_of, reading_by}

-- one name to unfold where an example computes
unfoldable computing : Unit {0}
unfolding framing_of body_limit extent_in data_in reading_of
computing = tt

two_chunks : extent_of (codes "1\r\nh\r\n1\r\ni\r\n0\r\n\r\n") ≡ extent.Whole 17 2
unfolding computing
two_chunks = refl

data_of_two_chunks : data_of (codes "1\r\nh\r\n1\r\ni\r\n0\r\n\r\n") ≡ codes "hi"
unfolding computing
data_of_two_chunks = refl

-- ---- where a body ends

a_large_size : extent_of (codes "FFFFFFFF\r\n") ≡ extent.Fault TooLarge
unfolding computing
a_large_size = refl

nine_digits : extent_of (codes "FFFFFFFFF\r\n") ≡ extent.Fault Malformed
unfolding computing
nine_digits = refl

an_extension_and_a_trailer : reading_of Chunked (codes "5;a=b\r\nhello\r\n0\r\nX: y\r\n\r\nGET") ≡ Whole 25 (codes "hello")
unfolding computing encoded_limit
an_extension_and_a_trailer = refl

a_space_and_a_tab : extent_of (codes "1 \t;\r\nh\r\n0\t\r\n\r\n") ≡ extent.Whole 15 1
unfolding computing
a_space_and_a_tab = refl

no_data : extent_of (codes "000\r\n\r\n") ≡ extent.Whole 7 0
unfolding computing
no_data = refl

no_size : extent_of (codes ";a\r\n") ≡ extent.Fault Malformed
unfolding computing
no_size = refl

undecided_line : extent_of (codes "zz") ≡ extent.More
unfolding computing
undecided_line = refl

decided_line : extent_of (codes "zz\r\n") ≡ extent.Fault Malformed
unfolding computing
decided_line = refl

bare_line_feed : extent_of (codes "1;a\nb\r\n") ≡ extent.Fault Malformed
unfolding computing
bare_line_feed = refl

bare_carriage_return : extent_of (codes "1;a\r\r\n") ≡ extent.Fault Malformed
unfolding computing
bare_carriage_return = refl

one_byte_behind_the_data : extent_of (codes "3\r\nabcX") ≡ extent.More
unfolding computing
one_byte_behind_the_data = refl

two_bytes_behind_the_data : extent_of (codes "3\r\nabcX\n") ≡ extent.Fault Malformed
unfolding computing
two_bytes_behind_the_data = refl

trailer_without_end : extent_of (codes "0\r\nX: y\r\n") ≡ extent.More
unfolding computing
trailer_without_end = refl

-- a line of 256 bytes is read, one of 257 is not
longest_line : size_line (49 ∷ 59 ∷ replicate 252 97 ++ codes "\r\n") ≡ Size 256 1
unfolding computing
longest_line = refl

longer_line : size_line (49 ∷ 59 ∷ replicate 253 97 ++ codes "\r\n") ≡ line.Malformed
unfolding computing
longer_line = refl

longer_line_undecided : size_line (49 ∷ 59 ∷ replicate 253 97) ≡ Unfinished
unfolding computing
longer_line_undecided = refl

-- the sizes add up to 1,048,577 at the second line
too_large_together : extent_from 0 1048575 (codes "2\r\n") ≡ extent.Fault TooLarge
unfolding computing
too_large_together = refl

large_together : extent_from 0 1048575 (codes "1\r\n") ≡ extent.More
unfolding computing
large_together = refl

-- ---- each beginning of a body is undecided

abbrev is_more : Reading → Bool
is_more More = true
is_more (Fault fault) = false
is_more (Whole used body) = false

-- whether each of the first beginnings is undecided
abbrev all_undecided : ℕ → List ℕ → Bool
all_undecided zero bytes = true
all_undecided (suc n) bytes = is_more (reading_of Chunked (take n bytes)) && all_undecided n bytes

beginnings_of_two_chunks : all_undecided 17 (codes "1\r\nh\r\n1\r\ni\r\n0\r\n\r\n") ≡ true
unfolding computing encoded_limit
beginnings_of_two_chunks = refl

whole_of_two_chunks : reading_of Chunked (codes "1\r\nh\r\n1\r\ni\r\n0\r\n\r\n") ≡ Whole 17 (codes "hi")
unfolding computing encoded_limit
whole_of_two_chunks = refl

sized_undecided : reading_of (Sized 3) (codes "ab") ≡ More
unfolding computing
sized_undecided = refl

sized_whole : reading_of (Sized 3) (codes "abcd") ≡ Whole 3 (codes "abc")
unfolding computing
sized_whole = refl

-- ---- a body that does not end in as many bytes as it may take

full_window : reading_by (codes "1\r\nh") true (extent_of (codes "1\r\nh")) ≡ Fault TooLarge
unfolding computing
full_window = refl

-- ---- framing

no_fields : framing_of false [] ≡ Ok (Sized 0)
unfolding computing
no_fields = refl

chunked : framing_of false ((codes "TRANSFER-encoding", codes "Chunked") ∷ []) ≡ Ok Chunked
unfolding computing
chunked = refl

chunked_in_the_older_version : framing_of true ((codes "Transfer-Encoding", codes "chunked") ∷ []) ≡ Err Malformed
unfolding computing
chunked_in_the_older_version = refl

chunked_with_a_length : framing_of false ((codes "Content-Length", codes "3") ∷ (codes "Transfer-Encoding", codes "chunked") ∷ [])
    ≡ Err Malformed
unfolding computing
chunked_with_a_length = refl

two_codings : framing_of false ((codes "Transfer-Encoding", codes "gzip, chunked") ∷ []) ≡ Err Unsupported
unfolding computing
two_codings = refl

two_coding_fields : framing_of true ((codes "Transfer-Encoding", codes "chunked") ∷ (codes "Content-Length", codes "3") ∷
    (codes "Transfer-Encoding", codes "chunked") ∷ []) ≡ Err Unsupported
unfolding computing
two_coding_fields = refl

no_coding : framing_of false ((codes "Transfer-Encoding", []) ∷ []) ≡ Err Unsupported
unfolding computing
no_coding = refl

a_length : framing_of true ((codes "content-length", codes "0042") ∷ []) ≡ Ok (Sized 42)
unfolding computing
a_length = refl

two_lengths : framing_of false ((codes "Content-Length", codes "1") ∷ (codes "Content-Length", codes "1048577") ∷ []) ≡ Err Malformed
unfolding computing
two_lengths = refl

listed_lengths : framing_of false ((codes "Content-Length", codes "1, 1") ∷ []) ≡ Err Malformed
unfolding computing
listed_lengths = refl

no_length : framing_of false ((codes "Content-Length", []) ∷ []) ≡ Err Malformed
unfolding computing
no_length = refl

longest_length : framing_of false ((codes "Content-Length", codes "1048576") ∷ []) ≡ Ok (Sized 1048576)
unfolding computing
longest_length = refl

longer_length : framing_of false ((codes "Content-Length", codes "1048577") ∷ []) ≡ Err TooLarge
unfolding computing
longer_length = refl

longer_length_in_many_digits : framing_of false ((codes "Content-Length", codes "99999999999999999999999999") ∷ []) ≡ Err TooLarge
unfolding computing
longer_length_in_many_digits = refl
