use Rattle.std.proofs.lemmas.Str.{IsUtf8-from_ascii}
use Rattle.doc_store_tags.proofs.page_tag.PageTag.text.Goals as goal

pub unreachable-requires : goal.unreachable-requires
unreachable-requires c = c.in_default.ensures.cases.0 (IsUtf8-from_ascii c.bytes.result.now c.bytes.ensures.ascii)
