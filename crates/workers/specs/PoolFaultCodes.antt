-- The numbers of a pool's refusals.
use Rattle.std.specs.Prelude.{ℕ}
use Rattle.workers.specs.declared.fault.PoolFault.{PoolFault}
use Rattle.workers.specs.declared.fault.PoolFault.TheVariants.{NoWorker, BookRefused, NoMemory}

abbrev pub code_of_pool_fault : PoolFault → ℕ
code_of_pool_fault NoWorker = 81
code_of_pool_fault BookRefused = 82
code_of_pool_fault NoMemory = 99
