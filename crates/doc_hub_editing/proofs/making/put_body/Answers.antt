use Rattle.std.proofs.lemmas.Str.{IsUtf8-from_is_utf8}
use Rattle.doc_hub_editing.proofs.making.put_body.Goals as goal

pub unreachable-requires : goal.unreachable-requires
unreachable-requires g c = c.in_default.ensures.cases.0 (IsUtf8-from_is_utf8 c.args.body.now c.requires.0)
