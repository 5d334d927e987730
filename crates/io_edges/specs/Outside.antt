-- The ends over the real thing: of what they hold, proofs see the faults so far alone.
use Rattle.std.specs.Prelude.{◌+◌, ℕ}
use Rattle.io_edges.specs.declared.ends.StoreFail.{StoreFail}
use Rattle.io_edges.specs.declared.ends.StoreFail.TheVariants.{Failed, NoMemory}

-- the faults so far of a wire's source and of its sink
pub record WireFaults : Type 0 where
  pub source : ℕ
  pub sink : ℕ

-- the count of a store's faults after a call that gave no answer: a fault counts, and want of memory doesn't
abbrev pub refused_faults : StoreFail → ℕ → ℕ
refused_faults Failed faults = faults + 1
refused_faults NoMemory faults = faults
