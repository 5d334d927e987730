-- Faults that a token has already.
use Rattle.std.specs.Prelude.{ℕ, ◌==◌, ◌&&◌, Bool, List, bytes_eq}
use Rattle.std.specs.List.{list_any}
use Rattle.tok_data.specs.declared.sources.TokId.{TokId}
use Rattle.tok_data.specs.declared.faults.PpFault.{PpFault}

abbrev pub is_at : TokId → TokId → Bool
is_at a b = a.at == b.at && bytes_eq a.file b.file

abbrev pub is_shown : ℕ → TokId → List PpFault → Bool
is_shown rule tok faults = list_any (λ fault. fault.rule == rule && is_at fault.tok tok) faults
