-- What is made of a unit as it is read, and what is counted and noted on the way.
use Rattle.std.specs.Prelude.{ℕ, List, [], ◌∷◌, ◌++◌, if◌then◌else◌}
use Rattle.std.specs.FinMap as map
use Rattle.tok_data.specs.declared.sources.TokId.{TokId}
use Rattle.tok_data.specs.declared.faults.PpFault.{PpFault}
use Rattle.tok_data.specs.declared.tokens.OutToken.{OutToken}
use Rattle.tok_data.specs.declared.macros.MacroRole.{MacroRole}
use Rattle.macro_expand.specs.Expansion.{Definitions}
use Rattle.pp_cond.specs.Defined.{occurrence}
pub use Rattle.include_units.specs.declared.made.Made.{Made}
pub use Rattle.include_units.specs.Names.{is_one_of}

abbrev pub definitions : Made → Definitions
definitions m = map.get m.table

abbrev pub fault : ℕ → TokId → List ℕ → PpFault
fault rule tok text = record { rule = rule; tok = tok; text = text }

abbrev pub with_fault : ℕ → TokId → List ℕ → Made → Made
with_fault rule tok text m = record m { faults = m.faults ++ fault rule tok text ∷ [] }

abbrev pub with_occurrence : MacroRole → OutToken → Made → Made
with_occurrence role t m = record m { macros = m.macros ++ occurrence (definitions m) role t ∷ [] }

abbrev pub with_read : List ℕ → Made → Made
with_read path m = if is_one_of m.reads path then m else record m { reads = m.reads ++ path ∷ [] }
