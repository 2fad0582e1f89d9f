-- Every row holds of the definitions, by computation.
use mathlib.Core.Path.{refl}
use Rattle.tree.specs.Tree.{smallest_from, dimension, part, run_below, run_of, place_in, place, distance_below, distance}
use Rattle.tree.specs.Lookups.{dimension_lookup, place_lookup, distance_lookup}
use Rattle.frame.specs.Frame.{frame_length}
use Rattle.frame.specs.Timing.{timing}
use Rattle.starred.specs.Rows.{All, table}

pub starred : All table
unfolding smallest_from dimension part run_below run_of place_in place distance_below distance dimension_lookup place_lookup
    distance_lookup frame_length timing
starred = (refl, (refl, (refl, (refl, (refl, (refl, (refl, (refl, (refl, (refl, (refl, (refl, (refl, (refl, (refl, (refl, (refl, (refl, (refl, (refl, (refl, (refl, tt))))))))))))))))))))))
