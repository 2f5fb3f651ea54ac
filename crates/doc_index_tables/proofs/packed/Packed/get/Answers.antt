use Rattle.std.proofs.Common.{string_bytes, sym, subst, ap, ◌∙◌}
use Rattle.std.specs.Str.{IsCharBoundary}
use Rattle.std.proofs.lemmas.Str.{IsUtf8-string_bytes}
use Rattle.doc_index_tables.specs.Packed.{between}
use Rattle.doc_index_tables.proofs.PackedSteps.{in_range, placed, text_placed}
use Rattle.doc_index_tables.proofs.packed.Packed.get.Goals as goal

pub start_of-start-requires : goal.start_of-start-requires
start_of-start-requires c =
    in_range (string_bytes c.self.inside.texts) c.self.inside.ends c.args.self.now c.args.at c.self.view_is c.requires

pub at-end-requires : goal.at-end-requires
at-end-requires c =
    in_range (string_bytes c.self.inside.texts) c.self.inside.ends c.args.self.now c.args.at c.self.view_is c.requires

pub range-requires-clause-start_le_end : goal.range-requires-clause-start_le_end
range-requires-clause-start_le_end c =
    (placed (string_bytes c.self.inside.texts) c.self.inside.ends c.start_of-start.result c.at-end.result c.args.at
    (IsUtf8-string_bytes c.self.inside.texts) c.self.invariant
    (in_range (string_bytes c.self.inside.texts) c.self.inside.ends c.args.self.now c.args.at c.self.view_is c.requires)
    c.at-end.ensures c.start_of-start.ensures).0

pub range-requires-clause-start_boundary : goal.range-requires-clause-start_boundary
range-requires-clause-start_boundary c = λ _.
    subst (λ bytes. IsCharBoundary bytes c.start_of-start.result) (sym c.as_str.ensures.value)
    (placed (string_bytes c.self.inside.texts) c.self.inside.ends c.start_of-start.result c.at-end.result c.args.at
    (IsUtf8-string_bytes c.self.inside.texts) c.self.invariant
    (in_range (string_bytes c.self.inside.texts) c.self.inside.ends c.args.self.now c.args.at c.self.view_is c.requires)
    c.at-end.ensures c.start_of-start.ensures).1

pub range-requires-clause-end_boundary : goal.range-requires-clause-end_boundary
range-requires-clause-end_boundary c =
    subst (λ bytes. IsCharBoundary bytes c.at-end.result.0) (sym c.as_str.ensures.value)
    (placed (string_bytes c.self.inside.texts) c.self.inside.ends c.start_of-start.result c.at-end.result c.args.at
    (IsUtf8-string_bytes c.self.inside.texts) c.self.invariant
    (in_range (string_bytes c.self.inside.texts) c.self.inside.ends c.args.self.now c.args.at c.self.view_is c.requires)
    c.at-end.ensures c.start_of-start.ensures).2

pub returns : goal.returns
returns c =
    text_placed (string_bytes c.self.inside.texts) c.self.inside.ends c.args.self.now c.start_of-start.result c.at-end.result
    c.args.at c.range.result.now c.self.view_is
    (in_range (string_bytes c.self.inside.texts) c.self.inside.ends c.args.self.now c.args.at c.self.view_is c.requires)
    c.at-end.ensures c.start_of-start.ensures
    (c.range.ensures.value ∙ ap (λ bytes. between bytes c.start_of-start.result c.at-end.result.0) c.as_str.ensures.value)
