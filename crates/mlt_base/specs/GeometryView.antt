-- A geometry of the code, as the definitions see it.
use Rattle.std.specs.Prelude.{◌≤◌, unsigned_abs}
use Rattle.mlt_base.specs.declared.geometry.Geometry.{Geometry}
use Rattle.mlt_base.specs.declared.limits.TheConstants.{MOST_CORNER, MOST_OPACITY, MOST_PIXELS}
use Rattle.mlt_base.specs.Geometry.{Rectangle}

abbrev pub rectangle_of : Geometry → Rectangle
rectangle_of g = record { x = g.x; y = g.y; width = g.width; height = g.height; opacity = g.opacity }

abbrev pub geometry_of : Rectangle → Geometry
geometry_of r = record { x = r.x; y = r.y; width = r.width; height = r.height; opacity = r.opacity }

-- the numbers of a geometry, in their ranges
pub record IsPlacement (g : Geometry) : Type 0 where
  pub x_near : unsigned_abs g.x ≤ MOST_CORNER
  pub y_near : unsigned_abs g.y ≤ MOST_CORNER
  pub some_width : 1 ≤ g.width
  pub few_columns : g.width ≤ MOST_PIXELS
  pub some_height : 1 ≤ g.height
  pub few_rows : g.height ≤ MOST_PIXELS
  pub opacity : g.opacity ≤ MOST_OPACITY
