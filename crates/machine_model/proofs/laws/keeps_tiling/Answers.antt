use Rattle.std.proofs.Common.{ℕ, sym, subst}
use Rattle.machine_model.specs.JobState.{AreTiles}
use Rattle.machine_model.proofs.Tiles.{tiles_step}
use Rattle.machine_model.proofs.laws.keeps_tiling.Goals as goal

pub returns-clause-tiles : goal.returns-clause-tiles
returns-clause-tiles c = λ programs j k n refuses is tiles.
    let after = tiles_step programs j k n refuses is tiles in
    subst (λ (count : ℕ). AreTiles k.tasks count) (sym after.1) after.0

pub returns-clause-size : goal.returns-clause-size
returns-clause-size c = λ programs j k n refuses is tiles. (tiles_step programs j k n refuses is tiles).1
