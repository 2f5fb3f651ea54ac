use Rattle.std.proofs.Common.{◌≡◌, ℕ, suc, reverse, length, chars}
use denote.Text.{Utf8}
use denote.Shadow.{shadow}
use Rattle.doc_rules.specs.Characters.{one_of}
use Rattle.doc_rules.specs.BareLinks.{dotted}
use Rattle.doc_inlines_addresses.proofs.hosts.last_part.Given as goal

abbrev pub invariant-part : goal.invariant-part
invariant-part l = record {
  is_text : shadow (Utf8 l.rest);
  same : (n : ℕ) → one_of (dotted (suc n) (reverse (chars l.text))) 95 ≡ one_of (dotted (suc n) (reverse (chars l.rest))) 95;
}

abbrev pub decreases-part : goal.decreases-part
decreases-part l = length (chars l.rest)
