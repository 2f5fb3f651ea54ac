use Rattle.std.proofs.Common.{rules, ◌≡◌, true, false, sym, ◌∙◌}
use Rattle.doc_blocks_starts.specs.HtmlKinds.{kind_of}
use Rattle.doc_blocks_leaves.proofs.LineSteps.{ends_behind_tab, ends_with_rest}
use Rattle.doc_blocks_leaves.proofs.line.ends_html.Goals as goal

pub returns-then-is_in_tab : goal.returns-then-is_in_tab
returns-then-is_in_tab c =
    let inside : c.is_in_tab.result ≡ true = search rules in
    ends_behind_tab (kind_of c.args.kind) c.args.line.now c.copy-behind.result c.next.new.self _ _ (sym c.is_in_tab.ensures
    ∙ inside) c.copy-behind.ensures c.next.ensures.place c.rest.ensures c.ends_with.ensures

pub returns : goal.returns
returns c =
    let outside : c.is_in_tab.result ≡ false = search rules in
    ends_with_rest (kind_of c.args.kind) c.args.line.now _ _ (sym c.is_in_tab.ensures ∙ outside) c.rest-2.ensures c.ends_with-2.ensures
