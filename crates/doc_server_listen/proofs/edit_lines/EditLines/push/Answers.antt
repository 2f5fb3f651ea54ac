use Rattle.std.proofs.Common.{◌≡◌, ◌≤◌, ◌+◌, IfSome, length, true, sym, subst}
use Rattle.std.specs.Prelude.{option_map, option_to_list, string_bytes}
use Rattle.doc_server_journal_records.specs.Records.{IsPlain}
use Rattle.doc_server_script.specs.PageLines.{lines_of}
use Rattle.doc_server_listen.specs.Edits.{Kept, TakesMore, edit_at}
use Rattle.doc_server_listen.proofs.StepLimits.{one_more_fits, one_more_plain}
use Rattle.doc_server_listen.proofs.edit_lines.EditLines.push.Goals as goal

pub invariant_of-self-else-is_err : goal.invariant_of-self-else-is_err
invariant_of-self-else-is_err g c =
    let edit = edit_at c.args.hub.now.1 c.args.edit.now in
    let most = c.self.inside.most in
    let before = string_bytes c.in-Some.lines in
    let more = lines_of (option_to_list edit) in
    let beside : c.self.inside.whole ≡ true → length before + length more ≤ most =
    λ whole. subst (λ l. IfSome (option_map string_bytes l) (λ lines. length lines + length more ≤ most)) c.in-Some.is
    (subst (λ (k : Kept). TakesMore k more) (sym c.self.view_is) c.requires.room whole) in
    let fits : c.self.inside.whole ≡ true → (length before ≤ most) × IsPlain before =
    λ whole. subst (λ l. IfSome (option_map string_bytes l) (λ lines. (length lines ≤ most) × IsPlain lines)) c.in-Some.is
    (c.self.invariant.1 whole) in (
      c.self.invariant.0,
      λ whole. (
        one_more_fits most before (string_bytes c.push_edit.new.out) more c.push_edit.result (beside whole)
            (sym c.if-is_err.ensures.value) c.push_edit.ensures,
        one_more_plain before (string_bytes c.push_edit.new.out) edit c.push_edit.result
            (fits whole).1 c.requires.bytes (sym c.if-is_err.ensures.value) c.push_edit.ensures,
      ),
    )
