use Rattle.std.proofs.Common.{refl, sym, ◌∙◌, subst}
use Rattle.std.specs.Prelude.{IsOk}
use Rattle.doc_lines.proofs.Digits.{reads_decimal}
use Rattle.doc_lines.proofs.escapes.number.decimal_number.Goals as goal

pub unwrap-requires : goal.unwrap-requires
unwrap-requires c = subst IsOk (sym (reads_decimal c.args.digits.now c.from_str_radix.result c.utf8.digits c.requires
    c.from_str_radix.ensures.value)) refl

pub returns : goal.returns
returns c =
    let read : _ = sym c.unwrap.ensures ∙ reads_decimal c.args.digits.now c.from_str_radix.result c.utf8.digits c.requires
    c.from_str_radix.ensures.value in
    cc
