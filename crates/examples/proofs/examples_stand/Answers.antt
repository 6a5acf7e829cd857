use Rattle.std.proofs.Common.{refl}
use Rattle.std.specs.Fmt.{digits}
use Rattle.supplied.specs.MadeRanges.{made_range}
use Rattle.supplied.specs.MadeRoutes.{made_route}
use Rattle.supplied.specs.MadeSpans.{made_span}
use Rattle.fields.specs.Layouts.{places_from, places_of}
use Rattle.listing.specs.Listings.{listing}
use Rattle.examples.proofs.examples_stand.Goals as goal

-- One by one, so that the check names an example that does not hold: one search of all would only break off.
pub returns : goal.returns
unfolding made_range made_route made_span listing places_from places_of digits
returns c =
    record {
      held = refl;
      too_long = refl;
      meet = refl;
      no_meet = refl;
      low-refused = refl;
      bit_refused = refl;
      route_refused = refl;
      bytes = refl;
      shorter = refl;
      overlap = refl;
      three_places = refl;
      four_places = refl;
      covered = refl;
      defaults = refl;
      preference = refl;
      good_packets = refl;
      verdict_bit = refl;
      other_code = refl;
      no_byte = refl;
      upside_down = refl;
      short_buffer = refl;
    }
