use Rattle.std.proofs.Common.{rules, string_bytes}
use Rattle.std.proofs.lemmas.Str.{IsUtf8-string_bytes}
use Rattle.doc_words_search.proofs.characters.push_char.Goals as goal
use Rattle.doc_page_parts.proofs.Texts.{chars_append_encode}

pub returns : goal.returns
returns c =
    let pushed : _ = chars_append_encode (string_bytes c.args.out.now) c.args.c (IsUtf8-string_bytes c.args.out.now) c.ranges.c.0 in
    search rules
