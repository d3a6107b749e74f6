-- The numbers that an accepted table keeps are those that its bytes tell.
use Rattle.std.specs.Prelude.{◌≡◌, ℕ, List}
use Rattle.refusals.specs.declared.Direction.TheVariants.{Forward}
use Rattle.tables.specs.Layout.{class_table, states, classes, code_place}
use Rattle.tables.specs.declared.layout.Layout.{Layout}

pub record Laid (b : List ℕ) (l : Layout) : Type 0 where
  pub class_place_is : l.class_place ≡ class_table b
  pub code_start_is : l.code_start ≡ code_place b Forward 0
  pub state_total_is : l.state_total ≡ states b Forward
  pub class_total_is : l.class_total ≡ classes b
