-- What the records of a journal restore behind a reload.
use Rattle.std.proofs.Common.{◌≡◌, ◌≤◌, ◌+◌, ℕ, refl, ap, sym, ◌∙◌, subst, arith}
use Rattle.std.specs.Prelude.{Ok}
use Rattle.doc_hub.specs.Worlds.{World, store_of}
use Rattle.doc_server_restore.specs.Restores.{restored, unstamped}
use Rattle.doc_server_kept.specs.KeptTurns.{IsOfCalls}
use Rattle.doc_server_reload.specs.Leads.{led}
use Rattle.doc_server_reload.specs.RestoredLaws.{WhatIsLedIsRestored, pages_alone}
use Rattle.doc_server_reload.proofs.KeptSites.{what_is_made_gives_the_site}
use Rattle.doc_server_reload.proofs.LessPuts.{all_count, records_with_less}

no_puts : (n : ℕ) → 0 + n ≡ n
no_puts n = omega arith

within : (less config again old new : ℕ) → less + config ≡ again → again ≤ config + old → old ≤ new → less ≤ new
within less config again old new is room more = omega (arith, is, room, more)

pub what_is_led_is_restored : WhatIsLedIsRestored
what_is_led_is_restored config again texts w v is_site of_calls given room made leaves =
    let (less, gives, below) = records_with_less w.media config.puts texts 1 (unstamped config) (pages_alone config) (unstamped again)
    (record { site = refl; puts = no_puts config.puts }) given in
    let site : v.site ≡ again.site =
    what_is_made_gives_the_site w.media (store_of w) (store_of v) again.site is_site of_calls.is_site made in (
      record {
        store = less;
        gives = subst (λ m. restored m (pages_alone config) texts ≡ Ok less) (sym (ap (λ (x : World). x.media) leaves)) gives;
        site = below.site ∙ sym site;
        puts = within less.puts config.puts again.puts w.puts v.puts below.puts room
            (all_count w.media (led w.site again.site) (store_of w) (store_of v) made);
      },
      subst IsOfCalls (sym site) of_calls,
    )
