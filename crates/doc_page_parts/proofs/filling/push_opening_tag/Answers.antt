use Rattle.doc_page_parts.proofs.BufferSteps.{front_same, front_more, on_refusal, five_written}
use Rattle.doc_page_parts.proofs.filling.push_opening_tag.Goals as goal

pub returns-in_err-push_str-in-Href : goal.returns-in_err-push_str-in-Href
returns-in_err-push_str-in-Href c =
    on_refusal _ _ c.from_residual.result c.from_residual.ensures.1 (front_same _ _ c.in_err-push_str-in-Href.ensures.bytes)

pub returns-in_err-push_str-in-Href-2 : goal.returns-in_err-push_str-in-Href-2
returns-in_err-push_str-in-Href-2 c =
    on_refusal _ _ c.from_residual-in_err-push_str-in-Href-2.result c.from_residual-in_err-push_str-in-Href-2.ensures.1
    (front_more _ _ _ _ c.in_ok-push_str-in-Href.ensures.bytes (front_same _ _ c.in_err-push_str-in-Href-2.ensures.bytes))

pub returns-in_err-push_str-in-Href-3 : goal.returns-in_err-push_str-in-Href-3
returns-in_err-push_str-in-Href-3 c =
    on_refusal _ _ c.from_residual-in_err-push_str-in-Href-3.result c.from_residual-in_err-push_str-in-Href-3.ensures.1
    (front_more _ _ _ _ c.in_ok-push_str-in-Href.ensures.bytes (front_more _ _ _ _ c.in_ok-push_str-in-Href-2.ensures.bytes
    (front_same _ _ c.in_err-push_str-in-Href-3.ensures.bytes)))

pub returns-in_err-push_title-in-Href : goal.returns-in_err-push_title-in-Href
returns-in_err-push_title-in-Href c =
    on_refusal _ _ c.from_residual-in_err-push_title-in-Href.result c.from_residual-in_err-push_title-in-Href.ensures.1
    (front_more _ _ _ _ c.in_ok-push_str-in-Href.ensures.bytes (front_more _ _ _ _ c.in_ok-push_str-in-Href-2.ensures.bytes
    (front_more _ _ _ _ c.in_ok-push_str-in-Href-3.ensures.bytes c.in_err-push_title-in-Href.ensures.err)))

pub returns-in_err-push_str-in-Href-4 : goal.returns-in_err-push_str-in-Href-4
returns-in_err-push_str-in-Href-4 c =
    on_refusal _ _ c.from_residual-in_err-push_str-in-Href-4.result c.from_residual-in_err-push_str-in-Href-4.ensures.1
    (front_more _ _ _ _ c.in_ok-push_str-in-Href.ensures.bytes (front_more _ _ _ _ c.in_ok-push_str-in-Href-2.ensures.bytes
    (front_more _ _ _ _ c.in_ok-push_str-in-Href-3.ensures.bytes (front_more _ _ _ _ c.in_ok-push_title-in-Href.ensures.ok
    (front_same _ _ c.in_err-push_str-in-Href-4.ensures.bytes)))))

pub returns-in_ok-push_str-in-Href-4 : goal.returns-in_ok-push_str-in-Href-4
returns-in_ok-push_str-in-Href-4 c = record {
  ok = rw (c.in-Href.is, ← c.get.ensures) (five_written _ _ _ _ _ _ _ _ _ _ _ c.in_ok-push_str-in-Href.ensures.bytes
      c.in_ok-push_str-in-Href-2.ensures.bytes c.in_ok-push_str-in-Href-3.ensures.bytes c.in_ok-push_title-in-Href.ensures.ok
      c.in_ok-push_str-in-Href-4.ensures.bytes);
  err = tt;
}
