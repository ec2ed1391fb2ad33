-- The places that the code goes through.
use Rattle.std.specs.Prelude.{List}
use Rattle.modinfo_pieces.specs.Places.{Place}
use Rattle.modinfo_pieces.specs.declared.place.Opening.{Opening}
use Rattle.modinfo_pieces.specs.declared.places.Spot.{Spot}

-- The place of a spot with these openings around.
abbrev pub place_of : Spot → List Opening → Place
place_of spot around =
    record {
      at = spot.at;
      around = around;
      before = spot.before;
      is_after_line_end = spot.is_after_line_end;
      choices = spot.choices.now;
    }
