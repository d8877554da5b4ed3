-- How the documents of a chain adjoin.
use Rattle.std.specs.Prelude.{◌≡◌, ◌+◌}
use Rattle.chain_links.specs.declared.place.Place.{Place}
use Rattle.chain_links.specs.declared.address.Address.TheVariants.{Archive}

-- newer's `prev` names older, which is an archive, and newer's span begins right after older's
pub record Adjoins (older newer : Place) : Type 0 where
  pub named : older.address ≡ Archive newer.prev
  pub spans : older.span.last + 1 ≡ newer.span.first
