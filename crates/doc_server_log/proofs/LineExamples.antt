-- Worked examples: lines of the log.
use Rattle.std.proofs.Common.{◌≡◌, ℕ, List, [], ◌∷◌, ◌++◌, codes, refl}
use Rattle.std.specs.Prelude.{Some, None}
use Rattle.std.specs.Borrow.{Bor}
use Rattle.std.specs.Fmt.{digits}
use Rattle.percent_encoding.specs.AsciiSet.{should_percent_encode}
use Rattle.percent_encoding.specs.Percent.{percent_encode, percent_encode_byte}
use Rattle.doc_server_log.specs.declared.entry.Entry.{Entry}
use Rattle.doc_server_log.specs.declared.reader.Reader.TheVariants.{Named, Row, Nobody}
use Rattle.doc_server_log.specs.Dates.{date_in, march_day}
use Rattle.doc_server_log.specs.JsonLines.{escaped, json_line}
use Rattle.doc_server_log.specs.Moments.{rfc3339, zero_padded}
use Rattle.doc_server_log.specs.PlainLines.{plain_line}

-- one name to unfold where an example computes
unfoldable computing : Unit {0}
unfolding digits escaped march_day date_in zero_padded rfc3339 percent_encode percent_encode_byte should_percent_encode
computing = tt

-- a text that is lent
abbrev lent : List ℕ → Bor (List ℕ)
lent text = record { ref_ptr = (0, 0); now = text }

-- a reader with a name asks for a page
abbrev page_read : Entry
page_read = record {
  time = Some 1795735060123456;
  connection = 17;
  reader = Named (lent (codes "ann"));
  method = lent (codes "GET");
  target = lent (codes "/page/guide/start.md?q=secret");
  code = 200;
  bytes = 5120;
  micros = 184;
}

-- somebody unknown asks for what has a quote, a backslash, a space and `é`, by no method
abbrev odd_request : Entry
odd_request = record {
  time = None;
  connection = 18446744073709551615;
  reader = Nobody;
  method = lent (codes "get");
  target = lent (codes "/a\"b\\c d" ++ 0xC3 ∷ 0xA9 ∷ []);
  code = 404;
  bytes = 98;
  micros = 0;
}

-- a reader without a name asks for no path
abbrev no_path : Entry
no_path = record {
  time = None;
  connection = 1;
  reader = Row 3;
  method = lent (codes "PROPFIND");
  target = lent (codes "*");
  code = 501;
  bytes = 7;
  micros = 12;
}

-- ---- as JSON, by Python's `json`

page_as_json : json_line page_read
    ≡ codes "{\"time\":\"2026-11-26T23:17:40.123456Z\",\"conn\":17,\"reader\":\"ann\",\"method\":\"GET\","
    ++ codes "\"path\":\"/page/guide/start.md\",\"code\":200,\"bytes\":5120,\"us\":184}\n"
unfolding computing
page_as_json = refl

odd_as_json : json_line odd_request
    ≡ codes "{\"time\":null,\"conn\":18446744073709551615,\"reader\":\"-\",\"method\":\"-\","
    ++ codes "\"path\":\"/a\\\"b\\\\c%20d%C3%A9\",\"code\":404,\"bytes\":98,\"us\":0}\n"
unfolding computing
odd_as_json = refl

no_path_as_json : json_line no_path
    ≡ codes "{\"time\":null,\"conn\":1,\"reader\":\"reader-3\","
    ++ codes "\"method\":\"PROPFIND\",\"path\":\"-\",\"code\":501,\"bytes\":7,\"us\":12}\n"
unfolding computing
no_path_as_json = refl

-- ---- in the plain form

page_plainly : plain_line page_read ≡ codes "17 GET /page/guide/start.md 200 5120 184\n"
unfolding computing
page_plainly = refl

no_path_plainly : plain_line no_path ≡ codes "1 PROPFIND - 501 7 12\n"
unfolding computing
no_path_plainly = refl
