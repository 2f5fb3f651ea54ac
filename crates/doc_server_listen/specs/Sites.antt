-- What leaves a hub's site as it was.
use Rattle.std.specs.Prelude.{◌≡◌}
use Rattle.doc_hub.specs.Worlds.{World}

-- the site, its media, how many puts were accepted, and the readers are as before
pub record IsSameSite (w v : World) : Type 0 where
  pub site : v.site ≡ w.site
  pub media : v.media ≡ w.media
  pub puts : v.puts ≡ w.puts
  pub readers : v.readers ≡ w.readers
